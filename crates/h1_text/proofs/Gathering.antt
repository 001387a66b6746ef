-- What is gathered, where there is room for it.
use Rattle.std.proofs.Common.{◌≡◌, ◌<◌, ◌≤◌, ◌+◌, ◌-◌, ◌||◌, ℕ, Bool, true, false, List, [], ◌∷◌, ◌++◌, length, Result, Ok, Err, refl, sym, ap, subst, ◌∙◌, arith, append_assoc, append-nil, length-append}
use Rattle.std.specs.List.{list_any}
use Rattle.bh_base.specs.Steps.{Step, Read, Write, BadRead, BadWrite, Chain, none, next, given, StopsAt, is_bad_write}
use Rattle.bh_base.specs.Batches.{Writes}
use Rattle.h1_text.specs.Gathering.{GatheredView, with_bytes, Gathers}

-- what writes led to
record Led (v : GatheredView) (steps : List Step) (w : GatheredView) : Type 0 where
  bytes : w.bytes ≡ v.bytes ++ given steps
  room : w.room + length (given steps) ≡ v.room
  full : list_any is_bad_write steps ≡ true → w.room ≡ 0

led_on : (v w : GatheredView) (steps : List Step) (x : Step) → Gathers v x w → (u : GatheredView) → Led w steps u → Led v (x ∷ steps) u
led_on v w steps (Read size bytes) h u l = absurd h
led_on v w steps (BadRead size) h u l = absurd h
led_on v w steps (Write size bytes) h u l =
    let is : w.bytes ≡ v.bytes ++ bytes = λ i. (h.0 i).bytes in
    let left : w.room ≡ v.room - length bytes = λ i. (h.0 i).room in
    record {
      bytes = l.bytes ∙ ap (λ (b : List ℕ). b ++ given steps) is ∙ append_assoc v.bytes bytes (given steps);
      room = omega (arith, l.room, left, h.1, length-append bytes (given steps));
      full = λ e. l.full e;
    }
led_on v w steps (BadWrite size) h u l =
    let is : w.bytes ≡ v.bytes = λ i. (h.0 i).bytes in
    let left : w.room ≡ v.room = λ i. (h.0 i).room in
    record {
      bytes = l.bytes ∙ ap (λ (b : List ℕ). b ++ given steps) is;
      room = l.room ∙ left;
      full = λ e. omega (arith, l.room, left, h.1);
    }

led : {v w : GatheredView} {steps : List Step} → Chain Gathers v steps w → Led v steps w
led (none {s = s}) = record { bytes = sym (append-nil s.bytes); room = omega arith; full = λ e. absurd (cc) }
led (next {s = s} {t = t} {u = u} {x = x} {steps = steps} one more) = led_on s t steps x one u (led more)

stops_bad : (front : List Step) (last : Step) → is_bad_write last ≡ true → list_any is_bad_write (front ++ last ∷ []) ≡ true
stops_bad [] last e = ap (λ (b : Bool). b || false) e
stops_bad (x ∷ front) last e = or_right (is_bad_write x) (stops_bad front last e)
  where
    or_right : (a : Bool) {b : Bool} → b ≡ true → (a || b) ≡ true
    or_right true e = refl
    or_right false e = e

-- a text for which there is more than enough room is gathered
pub gathered : {A E : Type 0} {v w : GatheredView} {text : List ℕ} (r : Result A E) → Writes Gathers v text r w → length text < v.room → w ≡ with_bytes v text
gathered {v = v} {w = w} {text = text} (Ok a) h fits =
    let l = led h.chain in
    let bytes : w.bytes ≡ v.bytes ++ text = l.bytes ∙ ap (λ (b : List ℕ). v.bytes ++ b) (sym h.whole.0) in
    let room : w.room ≡ v.room - length text = omega (arith, l.room, ap length h.whole.0) in
    λ i. record { bytes = bytes i; room = room i }
gathered {v = v} {w = w} {text = text} (Err e) h fits =
    let l = led h.chain in
    let bad : list_any is_bad_write h.steps ≡ true = ap (list_any is_bad_write) h.part.2.split ∙ stops_bad h.part.2.front h.part.2.last h.part.2.bad_last in
    absurd (omega (arith, l.room, l.full bad, ap length h.part.1, length-append (given h.steps) h.part.0, fits))
