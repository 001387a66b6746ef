-- Where no rule holds with the items of a message, but of the length of its body, none else holds of the message.
use Rattle.std.proofs.Common.{◌≡◌, ◌⊎◌, ◌+◌, arith, ℕ, Bool, true, false, not, cond, nat_eq, List, [], ◌∷◌, ◌++◌, length, map, flat_map, refl, sym, ap, ap₂, subst, ◌∙◌, inl, inr}
use Rattle.std.proofs.lemmas.Bool.{eqb-true, not-false}
use Rattle.bh_spec.specs.declared.Omitted.{Omitted}
use Rattle.bh_spec.specs.declared.Omitted.TheVariants.{Nothing, Trailers, Both}
use Rattle.bh_spec.specs.Messages.{Field, Interim, Start, request, response, Message}
use Rattle.bh_spec.specs.Items.{Item, interim_response, head, content_byte, of_request, of_response, tail_items, items}
use Rattle.h1_spec.specs.declared.Framing1.{Framing1}
use Rattle.h1_spec.specs.declared.Framing1.TheVariants.{Empty, Counted, Chunked, ToEnd}
use Rattle.h1_spec.specs.Cleaning.{hops, clean, clean_trailers, clean_start, clean_message, says_host}
use Rattle.h1_spec.specs.Framing.{lengths}
use Rattle.h1_spec.specs.Http1Text.{Case, has_bad_value, has_no_body, framing_by, framing_written, is_bare, of_interim, of_head, of_body}
use Rattle.h1_spec.specs.Moments.{announced, of_byte, of_trailers}
use Rattle.h1_spec.specs.Laws.{LeavesOut}
use Rattle.h1_spec.proofs.Agreeing.{head_parts, no_body_clean, bare_of}
use Rattle.h1_spec.proofs.Cases.{AreFree, none_free}
use Rattle.h1_spec.proofs.Kept.{lengths_kept}
use Rattle.h1_judge.specs.Courses.{Course, start_course, behind_item, behind, item_cases, AreFree as Free}
use Rattle.bh_translate.specs.Into.{LeaveText, HasText}

-- ---- rules

near_free : (cases : List Case) → AreFree cases → LeaveText cases
near_free [] h = tt
near_free ((form, holds) ∷ more) h = (inl h.0, near_free more h.1)

near_append : (a b : List Case) → LeaveText a → LeaveText b → LeaveText (a ++ b)
near_append [] b h k = k
near_append ((form, holds) ∷ a) b h k = (h.0, near_append a b h.1 k)

-- of another kind than length
never : (b : Bool) → (b ≡ false) ⊎ ⊥ → b ≡ false
never b (inl e) = e
never b (inr none) = absurd none

-- ---- items

-- with each of the items
abbrev pub AreNear : Bool → Course → List Item → Type 0
AreNear to_head c [] = Unit {0}
AreNear to_head c (item ∷ q) = LeaveText (item_cases c item) × AreNear to_head (behind_item to_head c item) q

pub free_near : (to_head : Bool) (c : Course) (i : List Item) → Free to_head c i → AreNear to_head c i
free_near to_head c [] h = tt
free_near to_head c (item ∷ i) h =
    (near_free (item_cases c item) (none_free (item_cases c item) h.0), free_near to_head (behind_item to_head c item) i h.1)

pub near_on : (to_head : Bool) (c : Course) (i q : List Item) → AreNear to_head c i → AreNear to_head (behind to_head c i) q
    → AreNear to_head c (i ++ q)
near_on to_head c [] q h k = k
near_on to_head c (item ∷ i) q h k = (h.0, near_on to_head (behind_item to_head c item) i q h.1 k)

pub near_back : (to_head : Bool) (c : Course) (i q : List Item) → AreNear to_head c (i ++ q) → AreNear to_head (behind to_head c i) q
near_back to_head c [] q h = h
near_back to_head c (item ∷ i) q h = near_back to_head (behind_item to_head c item) i q h.1

-- ---- the body

empty_list : {A : Type 0} (xs : List A) → length xs ≡ 0 → xs ≡ []
empty_list [] e = refl
empty_list (x ∷ xs) e = absurd (omega (arith, e))

-- what a body with this framing has
abbrev Suits : Framing1 → List ℕ → List Field → Type 0
Suits f content trailers = (f ≡ Empty → (content ≡ []) × (trailers ≡ [])) × (has_bad_value trailers ≡ false)

body_near : (f : Framing1) (content : List ℕ) (trailers : List Field) → Suits f content trailers → LeaveText (of_body f content trailers)
body_near Empty content trailers h =
    let none = h.0 refl in (
      inl (ap (λ (l : List ℕ). not (nat_eq (length l) 0)) none.0),
      (inl h.1, (inl (ap (λ (l : List Field). not (nat_eq (length l) 0)) none.1), tt)),
    )
body_near (Counted n) content trailers h = (inr tt, (inl h.1, (inr tt, (inr tt, tt))))
body_near Chunked content trailers h = (inl h.1, tt)
body_near ToEnd content trailers h = (inl h.1, tt)

trailers_suit : (f : Framing1) (n : ℕ) (trailers : List Field) → LeaveText (of_trailers f n trailers)
    → (f ≡ Empty → trailers ≡ []) × (has_bad_value trailers ≡ false)
trailers_suit Empty n trailers h =
    let none = never (not (nat_eq (length trailers) 0)) h.1.0 in
    let zero : length trailers ≡ 0 = eqb-true (length trailers) 0 (not-false (nat_eq (length trailers) 0) none) in
    (λ e. empty_list trailers zero, never (has_bad_value trailers) h.0)
trailers_suit (Counted field) n trailers h = (λ e. absurd (cc), never (has_bad_value trailers) h.0)
trailers_suit Chunked n trailers h = (λ e. absurd (cc), never (has_bad_value trailers) h.0)
trailers_suit ToEnd n trailers h = (λ e. absurd (cc), never (has_bad_value trailers) h.0)

-- no content comes where there is no body
no_byte : (f : Framing1) (n : ℕ) → f ≡ Empty → LeaveText (of_byte f n) → ⊥
no_byte Empty n e h = let none : true ≡ false = never true h.0 in cc
no_byte (Counted field) n e h = cc
no_byte Chunked n e h = cc
no_byte ToEnd n e h = cc

-- what is left out is empty
abbrev AreLeftOut : Omitted → List Field → Type 0
AreLeftOut Nothing trailers = Unit {0}
AreLeftOut Trailers trailers = trailers ≡ []
AreLeftOut Both trailers = trailers ≡ []

left_out : (m : Message) (o : Omitted) → LeavesOut m o → AreLeftOut o m.trailers
left_out m Nothing h = tt
left_out m Trailers h = h
left_out m Both h = h.1

no_trailers : (named : List (List ℕ)) (f : Framing1) (trailers : List Field) → trailers ≡ []
    → (f ≡ Empty → (◌≡◌ {A = List ℕ} [] []) × (clean_trailers named trailers ≡ [])) × (has_bad_value (clean_trailers named trailers) ≡ false)
no_trailers named f trailers e =
    (λ _. (refl, ap (clean_trailers named) e), ap (λ (l : List Field). has_bad_value (clean_trailers named l)) e)

tail_suits : (to_head : Bool) (c : Course) (content : List ℕ) (trailers : List Field) (o : Omitted) (z : ℕ) → AreLeftOut o trailers
    → AreNear to_head c (tail_items content trailers o z) → Suits c.framing content (clean_trailers c.named trailers)
tail_suits to_head c [] trailers Nothing z out h =
    let s = trailers_suit c.framing c.counted (clean_trailers c.named trailers) h.0 in (λ e. (refl, s.0 e), s.1)
tail_suits to_head c [] trailers Trailers z out h = no_trailers c.named c.framing trailers out
tail_suits to_head c [] trailers Both z out h = no_trailers c.named c.framing trailers out
tail_suits to_head c (x ∷ content) trailers o z out h =
    let s = tail_suits to_head (behind_item to_head c (content_byte x)) content trailers o z out h.1 in
    (λ e. absurd (no_byte c.framing (c.counted + 1) e h.0), s.1)

-- ---- the framing that is written

by_empty : (none bare : Bool) (values : List (List ℕ)) → cond none Empty (framing_by values bare) ≡ Empty
    → (cond none Empty (framing_by values false) ≡ Empty) ⊎ (bare ≡ true)
by_empty true bare values e = inl refl
by_empty false true values e = inr refl
by_empty false false values e = inl e

written_suits : (to_head : Bool) (m : Message) → Suits (announced to_head m.start m.fields) m.content (clean_trailers (hops m.fields) m.trailers)
    → Suits (framing_written to_head (clean_message m)) m.content (clean_trailers (hops m.fields) m.trailers)
written_suits to_head m h = (λ e. by_place (by_empty none bare values e), h.1)
  where
    none : Bool
    none = has_no_body to_head (clean_start m.start)

    bare : Bool
    bare = is_bare (clean_message m) (clean_start m.start)

    values : List (List ℕ)
    values = lengths (clean (hops m.fields) (says_host m.start) m.fields)

    by_place : (cond none Empty (framing_by values false) ≡ Empty) ⊎ (bare ≡ true)
        → (m.content ≡ []) × (clean_trailers (hops m.fields) m.trailers ≡ [])
    by_place (inl e) = h.0 (sym (ap₂ (λ (a : Bool) (l : List (List ℕ)). cond a Empty (framing_by l false))
        (no_body_clean to_head m.start) (lengths_kept m.fields m.fields (says_host m.start))) ∙ e)
    by_place (inr e) =
        let two = bare_of (clean_message m) (clean_start m.start) e in
        (empty_list m.content two.0, empty_list (clean_trailers (hops m.fields) m.trailers) two.1)

-- ---- the message

-- interim responses, and the head behind them
record Heads (to_head : Bool) (interims : List Interim) (status : ℕ) (fields : List Field) (q : List Item) : Type 0 where
  each : LeaveText (flat_map of_interim interims)
  at_head : LeaveText (of_head (response [] status) fields)
  course : Course
  tail : AreNear to_head (behind_item to_head course (head (of_response status) fields)) q

heads_near : (to_head : Bool) (c : Course) (interims : List Interim) (status : ℕ) (fields : List Field) (q : List Item)
    → AreNear to_head c ((map (λ (i : Interim). interim_response i.status i.fields) interims ++ head (of_response status) fields ∷ []) ++ q)
    → Heads to_head interims status fields q
heads_near to_head c [] status fields q h = record { each = tt; at_head = h.0; course = c; tail = h.1 }
heads_near to_head c (i ∷ interims) status fields q h =
    let rest = heads_near to_head (behind_item to_head c (interim_response i.status i.fields)) interims status fields q h.1 in
    record {
      each = near_append (of_interim i) (flat_map of_interim interims) h.0 rest.each;
      at_head = rest.at_head;
      course = rest.course;
      tail = rest.tail;
    }

near_of : (to_head : Bool) (start : Start) (fields : List Field) (content : List ℕ) (trailers : List Field) (o : Omitted) (z : ℕ)
    → AreLeftOut o trailers
    → let m : Message = record { start = start; fields = fields; content = content; trailers = trailers } in
    AreNear to_head start_course (items m o z) → HasText to_head m
near_of to_head (request control) fields content trailers o z out h =
    let m : Message = record { start = request control; fields = fields; content = content; trailers = trailers } in
    let ts : List Field = clean_trailers (hops fields) trailers in
    let s = tail_suits to_head (behind_item to_head start_course (head (of_request control) fields)) content trailers o z out h.1 in
    let by : Framing1 = framing_written to_head (clean_message m) in
    near_append (of_head (request control) fields) (of_body by content ts) h.0 (body_near by content ts (written_suits to_head m s))
near_of to_head (response interims status) fields content trailers o z out h =
    let m : Message = record { start = response interims status; fields = fields; content = content; trailers = trailers } in
    let ts : List Field = clean_trailers (hops fields) trailers in
    let heads = heads_near to_head start_course interims status fields (tail_items content trailers o z) h in
    let s = tail_suits to_head (behind_item to_head heads.course (head (of_response status) fields)) content trailers o z out heads.tail in
    let by : Framing1 = framing_written to_head (clean_message m) in
    let first : LeaveText (of_head (response interims status) fields) = subst LeaveText (sym (head_parts (response interims status) fields))
    (near_append (flat_map of_interim interims) (of_head (response [] status) fields) heads.each heads.at_head) in
    near_append (of_head (response interims status) fields) (of_body by content ts) first
    (body_near by content ts (written_suits to_head m s))

pub near_text : (to_head : Bool) (m : Message) (o : Omitted) (z : ℕ) → LeavesOut m o → AreNear to_head start_course (items m o z)
    → HasText to_head m
near_text to_head m o z out h = near_of to_head m.start m.fields m.content m.trailers o z (left_out m o out) h
