-- The judgement of the decoder, item by item, is that of the moments of the items.
use Rattle.std.proofs.Common.{◌≡◌, ◌+◌, arith, ℕ, Bool, List, [], ◌∷◌, ◌++◌, flat_map, refl, sym, ap, ap₂, subst, ◌∙◌, append-nil}
use Rattle.bh_spec.specs.declared.Omitted.{Omitted}
use Rattle.bh_spec.specs.declared.Omitted.TheVariants.{Nothing, Trailers, Both}
use Rattle.bh_spec.specs.Bounds.{Bounds}
use Rattle.bh_spec.specs.Messages.{Field, Interim, Start}
use Rattle.bh_spec.specs.Items.{Item, interim_response, head, content_byte, trailer_section, ending, Head, of_request, of_response}
use Rattle.bh_reading.specs.Coming.{TailComes, MessageComes}
use Rattle.h1_spec.specs.declared.Framing1.{Framing1}
use Rattle.h1_spec.specs.declared.Framing1.TheVariants.{Empty, Counted, Chunked, ToEnd}
use Rattle.h1_spec.specs.Cleaning.{hops, clean_trailers}
use Rattle.h1_spec.specs.Http1Text.{Case, of_interim, of_head}
use Rattle.h1_spec.specs.Moments.{announced, of_byte, of_trailers, of_end, alone, cases_at}
use Rattle.h1_spec.specs.Http1.{start_of}
use Rattle.h1_spec.proofs.Cases.{AreFree, none_free, free_append}
use Rattle.h1_moments.specs.Seen.{Seen, interims_seen, head_seen, start_with, seen_behind, moments_of, moments_in}
use Rattle.h1_judge.specs.Courses.{Course, behind_item, behind, item_cases, AreFree as Free}

-- ---- what is known of a body

-- so many bytes, where they are counted
abbrev pub IsCount : Framing1 → ℕ → ℕ → Type 0
IsCount Empty counted n = counted ≡ 0
IsCount (Counted field) counted n = counted ≡ n
IsCount Chunked counted n = Unit {0}
IsCount ToEnd counted n = Unit {0}

-- behind the head, and before the trailer section
pub record Matches (to_head : Bool) (c : Course) (start : Start) (fields : List Field) (n : ℕ) : Type 0 where
  pub framing : c.framing ≡ announced to_head start fields
  pub counted : IsCount c.framing c.counted n
  pub named : c.named ≡ hops fields

-- a byte more of content
pub match_on : (to_head : Bool) (c : Course) (start : Start) (fields : List Field) (n x : ℕ) → Matches to_head c start fields n
    → Matches to_head (behind_item to_head c (content_byte x)) start fields (n + 1)
match_on to_head c start fields n x h = record { framing = h.framing; counted = on c.framing h.counted; named = h.named }
  where
    on : (f : Framing1) → IsCount f c.counted n → IsCount f (Rattle.h1_judge.specs.Courses.counted_more f c.counted 1) (n + 1)
    on Empty e = e
    on (Counted field) e = omega (arith, e)
    on Chunked e = tt
    on ToEnd e = tt

-- behind a head
pub match_head : (to_head : Bool) (c : Course) (interims : List Interim) (of : Head) (fields : List Field)
    → Matches to_head (behind_item to_head c (head of fields)) (start_with interims of) fields 0
match_head to_head c interims of fields = record { framing = announces of; counted = none (announced to_head (start_of of) fields); named = refl }
  where
    announces : (of : Head) → announced to_head (start_of of) fields ≡ announced to_head (start_with interims of) fields
    announces (of_request control) = refl
    announces (of_response status) = refl

    none : (f : Framing1) → IsCount f 0 0
    none Empty = refl
    none (Counted field) = refl
    none Chunked = tt
    none ToEnd = tt

-- ---- rules

-- the rules of a byte and of a trailer section are those of its moment
pub byte_cases : (to_head : Bool) (c : Course) (start : Start) (fields : List Field) (n : ℕ) → Matches to_head c start fields n
    → of_byte c.framing (c.counted + 1) ≡ of_byte (announced to_head start fields) (n + 1)
byte_cases to_head c start fields n h = same c.framing h.counted ∙ ap (λ (f : Framing1). of_byte f (n + 1)) h.framing
  where
    same : (f : Framing1) → IsCount f c.counted n → of_byte f (c.counted + 1) ≡ of_byte f (n + 1)
    same Empty e = refl
    same (Counted field) e = ap (λ (k : ℕ). of_byte (Counted field) (k + 1)) e
    same Chunked e = refl
    same ToEnd e = refl

pub trailer_cases : (to_head : Bool) (c : Course) (start : Start) (fields trailers : List Field) (n : ℕ) → Matches to_head c start fields n
    → of_trailers c.framing c.counted (clean_trailers c.named trailers) ≡ of_trailers (announced to_head start fields) n (clean_trailers (hops fields) trailers)
trailer_cases to_head c start fields trailers n h =
    same c.framing h.counted (clean_trailers c.named trailers)
    ∙ ap₂ (λ (f : Framing1) (named : List (List ℕ)). of_trailers f n (clean_trailers named trailers)) h.framing h.named
  where
    same : (f : Framing1) → IsCount f c.counted n → (ts : List Field) → of_trailers f c.counted ts ≡ of_trailers f n ts
    same Empty e ts = refl
    same (Counted field) e ts = ap (λ (k : ℕ). of_trailers (Counted field) k ts) e
    same Chunked e ts = refl
    same ToEnd e ts = refl

pub head_cases : (to_head : Bool) (interims : List Interim) (of : Head) (fields : List Field)
    → of_head (start_of of) fields ≡ of_head (alone (start_with interims of)) fields
head_cases to_head interims (of_request control) fields = refl
head_cases to_head interims (of_response status) fields = refl

-- the cases of all the moments
abbrev pub cases_in : Bool → Seen → List Item → List Case
cases_in to_head seen i = flat_map (cases_at to_head) (moments_in seen i)

-- ---- no rule holds with the items, so none holds at their moments

free_one : (cases rest : List Case) → AreFree cases → AreFree rest → AreFree (cases ++ rest)
free_one cases rest a b = free_append cases rest a b

-- nothing stands behind items that are none
behind_none : (i q : List Item) → i ++ q ≡ [] → q ≡ []
behind_none [] q e = e
behind_none (x ∷ i) q e = absurd cc

module _ (to_head : Bool) (L : Bounds) where
  pub tail_free : (c : Course) (start : Start) (fields : List Field) (n : ℕ) (i q : List Item) → Matches to_head c start fields n → (q ≡ [] → ⊥) → TailComes L (i ++ q) → Free to_head c i
      → AreFree (cases_in to_head (head_seen start fields n) i)
  tail_free c start fields n [] q m some comes free = tt
  tail_free c start fields n ((interim_response status more) ∷ i) q m some comes free = absurd comes
  tail_free c start fields n ((head of more) ∷ i) q m some comes free = absurd comes
  tail_free c start fields n ((content_byte x) ∷ i) q m some comes free =
      free_one (of_byte (announced to_head start fields) (n + 1)) (cases_in to_head (head_seen start fields (n + 1)) i)
      (subst AreFree (byte_cases to_head c start fields n m) (none_free (of_byte c.framing (c.counted + 1)) free.0))
      (tail_free (behind_item to_head c (content_byte x)) start fields (n + 1) i q (match_on to_head c start fields n x m) some comes free.1)
  tail_free c start fields n ((trailer_section trailers) ∷ i) q m some comes free =
      free_one (of_trailers (announced to_head start fields) n (clean_trailers (hops fields) trailers)) (cases_in to_head (head_seen start fields n) i)
      (subst AreFree (trailer_cases to_head c start fields trailers n m) (none_free (of_trailers c.framing c.counted (clean_trailers c.named trailers)) free.0))
      (at_end i comes.1.0 comes.1.1)
    where
      at_end : (i : List Item) (z : ℕ) → i ++ q ≡ ending Nothing z ∷ [] → AreFree (cases_in to_head (head_seen start fields n) i)
      at_end [] z e = tt
      at_end ((interim_response status more) ∷ i) z e = absurd cc
      at_end ((head of more) ∷ i) z e = absurd cc
      at_end ((content_byte x) ∷ i) z e = absurd cc
      at_end ((trailer_section more) ∷ i) z e = absurd cc
      at_end ((ending omitted padding) ∷ i) z e = absurd (some (behind_none i q cc))
  tail_free c start fields n ((ending omitted padding) ∷ i) q m some comes free = absurd (some (behind_none i q comes.1))

  pub items_free : (c : Course) (begun : Bool) (interims : List Interim) (i q : List Item) → (q ≡ [] → ⊥) → MessageComes L begun (i ++ q) → Free to_head c i
      → AreFree (cases_in to_head (interims_seen interims) i)
  items_free c begun interims [] q some comes free = tt
  items_free c begun interims ((interim_response status fields) ∷ i) q some comes free =
      free_one (item_cases c (interim_response status fields)) (cases_in to_head (interims_seen (interims ++ record { status = status; fields = fields } ∷ [])) i)
      (none_free (item_cases c (interim_response status fields)) free.0)
      (items_free (behind_item to_head c (interim_response status fields)) Bool.true (interims ++ record { status = status; fields = fields } ∷ []) i q some comes.1 free.1)
  items_free c begun interims ((head of fields) ∷ i) q some comes free =
      free_one (of_head (alone (start_with interims of)) fields) (cases_in to_head (head_seen (start_with interims of) fields 0) i)
      (subst AreFree (head_cases to_head interims of fields) (none_free (of_head (start_of of) fields) free.0))
      (tail_free (behind_item to_head c (head of fields)) (start_with interims of) fields 0 i q (match_head to_head c interims of fields) some comes.1 free.1)
  items_free c begun interims ((content_byte x) ∷ i) q some comes free = absurd comes
  items_free c begun interims ((trailer_section fields) ∷ i) q some comes free = absurd comes
  items_free c begun interims ((ending omitted padding) ∷ i) q some comes free = absurd comes

-- ---- the rules of one item behind others

-- the cases of an item's moment
abbrev pub cases_with : Bool → Seen → List Item → Item → List Case
cases_with to_head seen i item = flat_map (cases_at to_head) (moments_of (seen_behind seen i) item)

-- it isn't the ending
abbrev pub IsThing : Item → Type 0
IsThing (interim_response status fields) = Unit {0}
IsThing (head of fields) = Unit {0}
IsThing (content_byte x) = Unit {0}
IsThing (trailer_section fields) = Unit {0}
IsThing (ending omitted padding) = ⊥

end_cases : (to_head : Bool) (c : Course) (start : Start) (fields : List Field) (n : ℕ) → Matches to_head c start fields n
    → of_end c.framing c.counted ≡ of_end (announced to_head start fields) n
end_cases to_head c start fields n h = same c.framing h.counted ∙ ap (λ (f : Framing1). of_end f n) h.framing
  where
    same : (f : Framing1) → IsCount f c.counted n → of_end f c.counted ≡ of_end f n
    same Empty e = refl
    same (Counted field) e = ap (of_end (Counted field)) e
    same Chunked e = refl
    same ToEnd e = refl

-- behind the trailer section nothing but the ending comes
only_ending : (i : List Item) (item : Item) (q : List Item) (z : ℕ) → IsThing item → i ++ item ∷ q ≡ ending Nothing z ∷ [] → ⊥
only_ending [] (interim_response status fields) q z thing e = cc
only_ending [] (head of fields) q z thing e = cc
only_ending [] (content_byte x) q z thing e = cc
only_ending [] (trailer_section fields) q z thing e = cc
only_ending [] (ending omitted padding) q z thing e = thing
only_ending (x ∷ i) item q z thing e = let tail : i ++ item ∷ q ≡ [] = cc in no_items i tail
  where
    no_items : (i : List Item) → i ++ item ∷ q ≡ [] → ⊥
    no_items [] e = cc
    no_items (y ∷ i) e = cc

no_more : (i : List Item) (item : Item) (q : List Item) → i ++ item ∷ q ≡ [] → ⊥
no_more [] item q e = cc
no_more (y ∷ i) item q e = cc

last_ending : (i : List Item) (o : Omitted) (z y : ℕ) → (o ≡ Nothing → ⊥) → i ++ ending o z ∷ [] ≡ ending Nothing y ∷ [] → ⊥
last_ending [] o z y some e = some cc
last_ending (x ∷ i) o z y some e = let tail : i ++ ending o z ∷ [] ≡ [] = cc in no_more i (ending o z) [] tail

module _ (to_head : Bool) (L : Bounds) where
  tail_with : (c : Course) (start : Start) (fields : List Field) (n : ℕ) (i : List Item) (item : Item) (q : List Item) → Matches to_head c start fields n → IsThing item → TailComes L (i ++ item ∷ q)
      → cases_with to_head (head_seen start fields n) i item ≡ item_cases (behind to_head c i) item
  tail_with c start fields n [] (interim_response status more) q m thing comes = absurd comes
  tail_with c start fields n [] (head of more) q m thing comes = absurd comes
  tail_with c start fields n [] (content_byte x) q m thing comes = append-nil (of_byte (announced to_head start fields) (n + 1)) ∙ sym (byte_cases to_head c start fields n m)
  tail_with c start fields n [] (trailer_section trailers) q m thing comes =
      append-nil (of_trailers (announced to_head start fields) n (clean_trailers (hops fields) trailers)) ∙ sym (trailer_cases to_head c start fields trailers n m)
  tail_with c start fields n [] (ending omitted padding) q m thing comes = absurd thing
  tail_with c start fields n ((interim_response status more) ∷ i) item q m thing comes = absurd comes
  tail_with c start fields n ((head of more) ∷ i) item q m thing comes = absurd comes
  tail_with c start fields n ((content_byte x) ∷ i) item q m thing comes = tail_with (behind_item to_head c (content_byte x)) start fields (n + 1) i item q (match_on to_head c start fields n x m) thing comes
  tail_with c start fields n ((trailer_section trailers) ∷ i) item q m thing comes = absurd (only_ending i item q comes.1.0 thing comes.1.1)
  tail_with c start fields n ((ending omitted padding) ∷ i) item q m thing comes = absurd (no_more i item q comes.1)

  tail_end : (c : Course) (start : Start) (fields : List Field) (n : ℕ) (i : List Item) (o : Omitted) (z : ℕ) → Matches to_head c start fields n → (o ≡ Nothing → ⊥) → TailComes L (i ++ ending o z ∷ [])
      → cases_with to_head (head_seen start fields n) i (ending o z) ≡ of_end (behind to_head c i).framing (behind to_head c i).counted
  tail_end c start fields n [] Nothing z m some comes = absurd (some refl)
  tail_end c start fields n [] Trailers z m some comes = append-nil (of_end (announced to_head start fields) n) ∙ sym (end_cases to_head c start fields n m)
  tail_end c start fields n [] Both z m some comes = append-nil (of_end (announced to_head start fields) n) ∙ sym (end_cases to_head c start fields n m)
  tail_end c start fields n ((interim_response status more) ∷ i) o z m some comes = absurd comes
  tail_end c start fields n ((head of more) ∷ i) o z m some comes = absurd comes
  tail_end c start fields n ((content_byte x) ∷ i) o z m some comes = tail_end (behind_item to_head c (content_byte x)) start fields (n + 1) i o z (match_on to_head c start fields n x m) some comes
  tail_end c start fields n ((trailer_section trailers) ∷ i) o z m some comes = absurd (last_ending i o z comes.1.0 some comes.1.1)
  tail_end c start fields n ((ending omitted padding) ∷ i) o z m some comes = absurd (no_more i (ending o z) [] comes.1)

  -- the rules that the decoder looks at with an item are those of its moment
  pub item_with : (c : Course) (begun : Bool) (interims : List Interim) (i : List Item) (item : Item) (q : List Item) → IsThing item → MessageComes L begun (i ++ item ∷ q)
      → cases_with to_head (interims_seen interims) i item ≡ item_cases (behind to_head c i) item
  item_with c begun interims [] (interim_response status fields) q thing comes = append-nil (of_interim (record { status = status; fields = fields }))
  item_with c begun interims [] (head of fields) q thing comes = append-nil (of_head (alone (start_with interims of)) fields) ∙ sym (head_cases to_head interims of fields)
  item_with c begun interims [] (content_byte x) q thing comes = absurd comes
  item_with c begun interims [] (trailer_section fields) q thing comes = absurd comes
  item_with c begun interims [] (ending omitted padding) q thing comes = absurd comes
  item_with c begun interims ((interim_response status fields) ∷ i) item q thing comes =
      item_with (behind_item to_head c (interim_response status fields)) Bool.true (interims ++ record { status = status; fields = fields } ∷ []) i item q thing comes.1
  item_with c begun interims ((head of fields) ∷ i) item q thing comes =
      tail_with (behind_item to_head c (head of fields)) (start_with interims of) fields 0 i item q (match_head to_head c interims of fields) thing comes.1
  item_with c begun interims ((content_byte x) ∷ i) item q thing comes = absurd comes
  item_with c begun interims ((trailer_section fields) ∷ i) item q thing comes = absurd comes
  item_with c begun interims ((ending omitted padding) ∷ i) item q thing comes = absurd comes

  -- so are those of an end behind which no trailer section came
  pub end_with : (c : Course) (begun : Bool) (interims : List Interim) (i : List Item) (o : Omitted) (z : ℕ) → (o ≡ Nothing → ⊥) → MessageComes L begun (i ++ ending o z ∷ [])
      → cases_with to_head (interims_seen interims) i (ending o z) ≡ of_end (behind to_head c i).framing (behind to_head c i).counted
  end_with c begun interims [] o z some comes = absurd comes
  end_with c begun interims ((interim_response status fields) ∷ i) o z some comes =
      end_with (behind_item to_head c (interim_response status fields)) Bool.true (interims ++ record { status = status; fields = fields } ∷ []) i o z some comes.1
  end_with c begun interims ((head of fields) ∷ i) o z some comes =
      tail_end (behind_item to_head c (head of fields)) (start_with interims of) fields 0 i o z (match_head to_head c interims of fields) some comes.1
  end_with c begun interims ((content_byte x) ∷ i) o z some comes = absurd comes
  end_with c begun interims ((trailer_section fields) ∷ i) o z some comes = absurd comes
  end_with c begun interims ((ending omitted padding) ∷ i) o z some comes = absurd comes

  -- where the trailer section isn't left out, no rule is left for the end
  pub end_nothing : (seen : Seen) (i : List Item) (z : ℕ) → cases_with to_head seen i (ending Nothing z) ≡ []
  end_nothing seen i z = by_seen (seen_behind seen i)
    where
      by_seen : (seen : Seen) → flat_map (cases_at to_head) (moments_of seen (ending Nothing z)) ≡ []
      by_seen (interims_seen interims) = refl
      by_seen (head_seen start fields n) = refl
