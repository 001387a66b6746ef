-- What is known of the states of the decoder that judges.
use Rattle.std.proofs.Common.{◌≡◌, ◌⊎◌, ◌+◌, ℕ, Bool, Option, None, List, [], ◌∷◌, ◌++◌, inl, inr, refl, sym, ◌∙◌, ap, ap₂, subst, arith, append_assoc, append-nil}
use Rattle.bh_spec.specs.Bounds.{Bounds}
use Rattle.bh_spec.specs.Texts.{Text, content_in}
use Rattle.bh_spec.specs.Residuals.{IsResidual}
use Rattle.bh_spec.specs.Items.{Item, interim_response, head, content_byte, trailer_section, ending}
use Rattle.bh_stream.specs.Decoding.{content_items, IsAlive, Leads, DecoderLaws}
use Rattle.bh_reading.specs.Readings as binary
use Rattle.bh_reading.specs.Readings.{Counted}
use Rattle.bh_reading.specs.ReadingLaws.{alive_behind, reading_laws}
use Rattle.h1_judge.specs.Courses.{cleaned_item, named_behind, cleaned_items, Course, behind_item, behind, item_form, AreFree}
use Rattle.h1_judge.specs.Views.{JudgedView, rest, limits, room, Landed, Moved, AreFitting, IsReady}

-- ---- items, one behind the other

pub behind-append : (to_head : Bool) (c : Course) (i j : List Item) → behind to_head c (i ++ j) ≡ behind to_head (behind to_head c i) j
behind-append to_head c [] j = refl
behind-append to_head c (item ∷ i) j = behind-append to_head (behind_item to_head c item) i j

pub cleaned-append : (to_head : Bool) (c : Course) (i j : List Item)
    → cleaned_items c.named (i ++ j) ≡ cleaned_items c.named i ++ cleaned_items (behind to_head c i).named j
cleaned-append to_head c [] j = refl
cleaned-append to_head c (item ∷ i) j = ap (λ (q : List Item). cleaned_item c.named item ∷ q)
    (cleaned-append to_head (behind_item to_head c item) i j)

pub free-append : (to_head : Bool) (c : Course) (i j : List Item) → AreFree to_head c i → AreFree to_head (behind to_head c i) j
    → AreFree to_head c (i ++ j)
free-append to_head c [] j a b = b
free-append to_head c (item ∷ i) j a b = (a.0, free-append to_head (behind_item to_head c item) i j a.1 b)

pub fitting-behind : (L : Bounds) (i j : List Item) → AreFitting L (i ++ j) → AreFitting L j
fitting-behind L [] j h = h
fitting-behind L (item ∷ i) j h = fitting-behind L i j h.1

-- an item of content stays one, and no other becomes one
pub cleaned-content : (named : List (List ℕ)) (i : List Item) → content_items (cleaned_items named i) ≡ content_items i
cleaned-content named [] = refl
cleaned-content named ((interim_response status fields) ∷ i) = cleaned-content (named_behind named (interim_response status fields)) i
cleaned-content named ((head of fields) ∷ i) = cleaned-content (named_behind named (head of fields)) i
cleaned-content named ((content_byte x) ∷ i) = ap (λ (n : ℕ). n + 1) (cleaned-content named i)
cleaned-content named ((trailer_section fields) ∷ i) = cleaned-content named i
cleaned-content named ((ending omitted padding) ∷ i) = cleaned-content named i

-- ---- states

-- cleaned behind the items is cleaned on from the state that they lead to
cleaned_on : (v w : JudgedView) (x : List ℕ) (i : List Item) → (m : Moved v x i w) → (raw : List Item)
    → cleaned_items v.course.named (m.raw ++ raw) ≡ i ++ cleaned_items w.course.named raw
cleaned_on v w x i m raw = cleaned-append v.to_head v.course m.raw raw
    ∙ ap (λ (q : List Item). q ++ cleaned_items (behind v.to_head v.course m.raw).named raw) (sym m.items_are)
    ∙ ap (λ (c : Course). i ++ cleaned_items c.named raw) (sym m.course)

leads : (v w : JudgedView) (x : List ℕ) (i : List Item) → Moved v x i w → Leads rest room v x i w
leads v w x i m =
    let h = reading_laws.leads v.reading w.reading x m.raw m.moved in
    record {
      residual = record {
        text = h.residual.text;
        same = h.residual.same;
        forth = λ q u more a e.
            let f = h.residual.forth a.0 u more a.2 e in
            record {
              thing = cleaned_items w.course.named f.thing;
              rest = f.rest;
              spelled = (f.thing, refl, f.spelled);
              same = a.1 ∙ ap (cleaned_items v.course.named) f.same ∙ cleaned_on v w x i m f.thing;
              joined = f.joined;
            };
        back = λ q t a.
            (m.raw ++ a.0, ap (λ (p : List Item). i ++ p) a.1 ∙ sym (cleaned_on v w x i m a.0), h.residual.back a.0 t a.2);
      };
      room_left = h.room_left;
    }

-- something completes the message behind all that was taken
pub alive_there : (v w : JudgedView) (x : List ℕ) (i : List Item) → Moved v x i w → IsAlive rest w
alive_there v w x i m =
    let alive = alive_behind v.reading w.reading x m.raw m.moved in
    (cleaned_items w.course.named alive.0, alive.1, (alive.0, refl, alive.2))

stays : (v : JudgedView) → IsReady v → Moved v [] [] v
stays v r = record {
  raw = [];
  items_are = refl;
  moved = reading_laws.stays v.reading r.reading;
  to_head = refl;
  course = refl;
  free = tt;
  prompt = r.prompt;
  landed = inl refl;
}

-- behind the items of some bytes stand those of others, or none
landed_on : (v w : Counted) (x y : List ℕ) (i j : List Item) → binary.Moved v x i w → (i ≡ []) ⊎ Landed v x i
    → (j ≡ []) ⊎ Landed w y j → (i ++ j ≡ []) ⊎ Landed v (x ++ y) (i ++ j)
landed_on v w x y i j m (inl a) (inl b) = inl (ap (λ (q : List Item). q ++ j) a ∙ b)
landed_on v w x y i j m (inr a) (inl b) =
    let same : i ++ j ≡ i = ap (λ (q : List Item). i ++ q) b ∙ append-nil i in
    inr (record {
      front = a.front;
      last = a.last;
      items_are = same ∙ a.items_are;
      seen = a.seen;
      quiet = a.quiet ++ y;
      split = ap (λ (l : List ℕ). l ++ y) a.split ∙ append_assoc a.seen a.quiet y;
      state = a.state;
      moved = subst (λ (q : List Item). binary.Moved v a.seen q a.state) (sym same) a.moved;
      right = a.right;
    })
landed_on v w x y i j m before (inr b) = inr (record {
  front = i ++ b.front;
  last = b.last;
  items_are = ap (λ (q : List Item). i ++ q) b.items_are ∙ sym (append_assoc i b.front (b.last ∷ []));
  seen = x ++ b.seen;
  quiet = b.quiet;
  split = ap (λ (l : List ℕ). x ++ l) b.split ∙ sym (append_assoc x b.seen b.quiet);
  state = b.state;
  moved = reading_laws.goes_on v w b.state x b.seen i j m b.moved;
  right = b.right;
})

goes_on : (v w u : JudgedView) (x y : List ℕ) (i j : List Item) → Moved v x i w → Moved w y j u → Moved v (x ++ y) (i ++ j) u
goes_on v w u x y i j a b =
    let there : behind w.to_head w.course b.raw ≡ behind v.to_head (behind v.to_head v.course a.raw) b.raw
    = ap₂ (λ (t : Bool) (c : Course). behind t c b.raw) a.to_head a.course in
    record {
      raw = a.raw ++ b.raw;
      items_are = ap (λ (q : List Item). i ++ q) b.items_are ∙ sym (cleaned_on v w x i a b.raw);
      moved = reading_laws.goes_on v.reading w.reading u.reading x y a.raw b.raw a.moved b.moved;
      to_head = b.to_head ∙ a.to_head;
      course = b.course ∙ there ∙ sym (behind-append v.to_head v.course a.raw b.raw);
      free = free-append v.to_head v.course a.raw b.raw a.free
          (subst (λ (c : Course). AreFree v.to_head c b.raw) a.course (subst (λ (t : Bool). AreFree t w.course b.raw) a.to_head b.free));
      prompt = b.prompt;
      landed = landed_on v.reading w.reading x y a.raw b.raw a.moved a.landed b.landed;
    }

is_ready : (v w : JudgedView) (x : List ℕ) (i : List Item) → IsReady v → Moved v x i w → IsReady w
is_ready v w x i r m =
    let h = reading_laws.leads v.reading w.reading x m.raw m.moved in
    record {
      reading = reading_laws.is_ready v.reading w.reading x m.raw r.reading m.moved;
      prompt = m.prompt;
      fitting = λ raw t a. subst (λ (L : Bounds). AreFitting L raw) (sym m.moved.limits)
          (fitting-behind (limits v) m.raw raw (r.fitting (m.raw ++ raw) (h.residual.text ++ t) (h.residual.back raw t a)));
    }

pub judged_laws : DecoderLaws rest room Moved IsReady
judged_laws = record {
  leads = leads;
  stays = stays;
  goes_on = goes_on;
  is_ready = is_ready;
  content = λ v q t a. reading_laws.content v.reading a.0 t a.2 ∙ sym (ap content_items a.1 ∙ cleaned-content v.course.named a.0);
}
