-- The phase of the framing number.
use Rattle.std.proofs.Common.{◌≡◌, ◌≤◌, ◌<◌, ℕ, zero, suc, List, [], ◌∷◌, ◌++◌, length, get_or, refl, sym, ap, subst, ◌∙◌, append-nil, inl, inr, arith}
use Rattle.bh_spec.specs.declared.Form.{Form}
use Rattle.bh_spec.specs.declared.Form.TheVariants.{Known, Indeterminate}
use Rattle.bh_spec.specs.declared.Kind.{Kind}
use Rattle.bh_spec.specs.declared.Kind.TheVariants.{Request, Response}
use Rattle.bh_spec.specs.declared.Part.{Part}
use Rattle.bh_spec.specs.declared.Part.TheVariants as parts
use Rattle.bh_spec.specs.declared.Width.{Width}
use Rattle.bh_spec.specs.declared.Width.TheVariants.{One}
use Rattle.bh_spec.specs.Bounds.{Bounds, IsWithin, no_bounds}
use Rattle.bh_spec.specs.Integers.{vi, byte_count, IsAllowed, SomeBegins}
use Rattle.bh_spec.specs.Pieces.{SomeOf, CanBecome, IsNext, IsDead}
use Rattle.bh_spec.specs.Spelling.{framing}
use Rattle.bh_spec.specs.Texts.{Text, bytes_of}
use Rattle.bh_spec.specs.Viable.{IsViable}
use Rattle.bh_spec.proofs.Framing.{framing_alive}
use Rattle.bh_spec.proofs.Marks.{marked_bytes}
use Rattle.bh_spec.specs.Intervals.{width_of}
use Rattle.bh_spec.proofs.Widths.{count_1}
use Rattle.bh_spec.proofs.Whole.{framing_is}
use Rattle.bh_varint.specs.Step.{IsWhole, IsUnfinished}
use Rattle.bh_varint.proofs.Reading.{number_once}
use Rattle.bh_control.specs.Numbers.{numbers}
use Rattle.bh_spec.specs.Items.{Item, items}
use Rattle.bh_spec.specs.Residuals.{IsResidual}
use Rattle.bh_spec.proofs.Residuals.{residual_step}
use Rattle.bh_push.specs.Completing.{AfterFraming, MessageRest}
use Rattle.bh_push.specs.Decoders.{Rest, in_framing}
use Rattle.bh_push.specs.Standing.{Comes}
use Rattle.bh_push.proofs.Bodies.{step_same}
use Rattle.bh_push.proofs.Numbered.{IsNumbered, Only, Each, number_more, number_whole, number_stops, number_some, number_next}
use Rattle.bh_push.proofs.Starting.{start_is}
use Rattle.bh_push.proofs.Statuses.{AfterNumber, framing_to, framing_from}

-- ---- which numbers

pub framing_numbered : (L : Bounds) → IsNumbered parts.Framing (MessageRest L) (AfterNumber L)
framing_numbered L = record { to = framing_to L; from = framing_from L }

small : (k : Kind) (form : Form) → framing k form ≤ 3
small Request Known = omega arith
small Request Indeterminate = omega arith
small Response Known = omega arith
small Response Indeterminate = omega arith

framing_only : (L : Bounds) → Only (AfterNumber L) (numbers 0 3)
framing_only L q n w y h body = inr ((omega arith, omega (arith, small body.0.0 body.0.1, body.1)), tt)

spelled_small : (n : ℕ) → n ≤ 3 → vi n One ≡ n ∷ []
spelled_small zero h = refl
spelled_small (suc zero) h = refl
spelled_small (suc (suc zero)) h = refl
spelled_small (suc (suc (suc zero))) h = refl
spelled_small (suc (suc (suc (suc n)))) h = absurd (omega arith)

pub allowed_small : (k n : ℕ) → IsAllowed (numbers 0 3) k n → n ≤ 3
allowed_small k n (inl z) = absurd (let no : _ = z.0 in cc)
allowed_small k n (inr i) = i.0.1

-- a message of each framing number there is
framing_each : (L : Bounds) → IsWithin L.part 5 → Each (AfterNumber L) (numbers 0 3)
framing_each L five n w fits a =
    let few : n ≤ 3 = allowed_small (byte_count w) n a in
    let spelled : vi n One ≡ n ∷ [] = spelled_small n few in
    let viable : IsViable L (n ∷ []) = (framing_alive L n [] five (omega (arith, count_1 (width_of n)))).1 (n, One, (omega (arith, few), ([], spelled)), inr ((omega arith, few), tt)) in
    let s = viable.spelled in
    let q : List Item = items s.0 s.1 s.2 in
    let h = framing_to L q viable.text (start_is.back L q viable.text (s.0, s.1, s.2, refl, s.3)) in
    let same = number_once n h.number One h.width viable.after (bytes_of h.behind) (omega (arith, few)) h.fits
    (ap (λ (x : List ℕ). x ++ viable.after) spelled ∙ sym viable.begins ∙ ap bytes_of h.spelled ∙ marked_bytes parts.Framing (vi h.number h.width) h.behind) in
    (q, h.behind, (h.body.0, h.body.1 ∙ sym same.0, h.body.2))

-- ---- a byte

pub byte_dead : (R S : Text → Type 0) (piece : List ℕ) (part : Part) → 0 < length piece → IsNext R [] part → (CanBecome R (get_or piece 0 0 ∷ []) → ⊥)
    → (CanBecome S (get_or piece 0 0 ∷ []) → ⊥) → IsDead R S [] piece 0 part
byte_dead R S [] part some next after anyway = absurd (omega (arith, some))
byte_dead R S (byte ∷ piece) part some next after anyway = record {
  refused = record { inside = omega arith; next = next; after = λ c. after c };
  anyway = λ c. anyway c;
}

pub framing_more : (L : Bounds) (begun : List ℕ) (byte : ℕ) → IsWithin L.part 5 → IsUnfinished begun → SomeBegins (numbers 0 3) (begun ++ byte ∷ [])
    → Comes L (in_framing begun) (byte ∷ []) [] (in_framing (begun ++ byte ∷ []))
framing_more L begun byte five un s = record {
  within = step L;
  anyway = step no_bounds;
  goes_on = number_some parts.Framing (MessageRest L) (AfterNumber L) (framing_numbered L) (numbers 0 3) (begun ++ byte ∷ []) [] (framing_each L five)
      (subst (SomeBegins (numbers 0 3)) (sym (append-nil (begun ++ byte ∷ []))) s);
}
  where
    step : (K : Bounds) → IsResidual (Rest K (in_framing begun)) (byte ∷ []) (λ q. q) (Rest K (in_framing (begun ++ byte ∷ [])))
    step K = residual_step (Rest K (in_framing begun)) parts.Framing byte (λ q. q) (Rest K (in_framing (begun ++ byte ∷ [])))
        (number_more parts.Framing (MessageRest K) (AfterNumber K) (framing_numbered K) begun byte un)

-- the last byte of the number leads to what it says
pub framing_whole : (L : Bounds) (begun : List ℕ) (byte n : ℕ) (w : Width) (k : Kind × Form) → IsWithin L.part 5 → IsUnfinished begun → IsWhole (numbers 0 3) (begun ++ byte ∷ []) n w
    → framing k.0 k.1 ≡ n → (K : Bounds) → IsResidual (Rest K (in_framing begun)) (byte ∷ []) (λ q. q) (AfterFraming K k)
framing_whole L begun byte n w k five un whole same K =
    residual_step (Rest K (in_framing begun)) parts.Framing byte (λ q. q) (AfterFraming K k)
    (step_same (Rest K (in_framing begun)) (λ q t. AfterNumber K q n (byte_count w) t) (AfterFraming K k) parts.Framing byte
    (number_whole parts.Framing (MessageRest K) (AfterNumber K) (framing_numbered K) (numbers 0 3) begun byte n w un whole)
    (λ q t h. to q t h) (λ q t h. (k, same, h)))
  where
    to : (q : List Item) (t : Text) → AfterNumber K q n (byte_count w) t → AfterFraming K k q t
    to q t h =
        let e = framing_is h.0.0 k.0 h.0.1 k.1 (h.1 ∙ sym same) in
        subst (λ (f : Form). AfterFraming K (k.0, f) q t) e.1 (subst (λ (i : Kind). AfterFraming K (i, h.0.1) q t) e.0 h.2)

pub framing_next : (L : Bounds) (begun : List ℕ) → IsWithin L.part 5 → IsUnfinished begun → SomeBegins (numbers 0 3) begun → IsNext (SomeOf (Rest L (in_framing begun))) [] parts.Framing
framing_next L begun five un s = number_next parts.Framing (MessageRest L) (AfterNumber L) (framing_numbered L) (numbers 0 3) begun (framing_each L five) un s

pub framing_dead : (L : Bounds) (begun piece : List ℕ) → 0 < length piece → IsWithin L.part 5 → IsUnfinished begun → SomeBegins (numbers 0 3) begun
    → (SomeBegins (numbers 0 3) (begun ++ get_or piece 0 0 ∷ []) → ⊥)
    → IsDead (SomeOf (Rest L (in_framing begun))) (SomeOf (Rest no_bounds (in_framing begun))) [] piece 0 parts.Framing
framing_dead L begun piece some five un s dead =
    byte_dead (SomeOf (Rest L (in_framing begun))) (SomeOf (Rest no_bounds (in_framing begun))) piece parts.Framing some (framing_next L begun five un s) (stops L) (stops no_bounds)
  where
    stops : (K : Bounds) → CanBecome (SomeOf (Rest K (in_framing begun))) (get_or piece 0 0 ∷ []) → ⊥
    stops K c = number_stops parts.Framing (MessageRest K) (AfterNumber K) (framing_numbered K) (numbers 0 3) begun (get_or piece 0 0) un (framing_only K) dead c

-- a message goes on behind the number
pub framing_some : (L : Bounds) (begun : List ℕ) (n : ℕ) (w : Width) (k : Kind × Form) → IsWithin L.part 5 → IsWhole (numbers 0 3) begun n w → framing k.0 k.1 ≡ n → CanBecome (SomeOf (AfterFraming L k)) []
framing_some L begun n w k five whole same =
    let a = framing_each L five n w whole.fits whole.allowed in
    let e = framing_is a.2.0.0 k.0 a.2.0.1 k.1 (a.2.1 ∙ sym same) in
    record {
      text = a.1;
      after = bytes_of a.1;
      spelled = (a.0, subst (λ (f : Form). AfterFraming L (k.0, f) a.0 a.1) e.1 (subst (λ (i : Kind). AfterFraming L (i, a.2.0.1) a.0 a.1) e.0 a.2.2));
      begins = refl;
    }
