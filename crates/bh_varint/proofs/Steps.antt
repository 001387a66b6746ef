-- What a step says, by cases, is what it says exactly.
use Rattle.std.proofs.Common.{◌≡◌, ◌↔◌, ℕ, List, [], refl, sym, ap₂, subst₂, ◌∙◌, append-nil}
use Rattle.bh_spec.specs.declared.Width.{Width}
use Rattle.bh_spec.specs.declared.Allowed.{Allowed}
use Rattle.bh_spec.specs.Integers.{SomeBegins}
use Rattle.bh_varint.specs.declared.Step.{Step}
use Rattle.bh_varint.specs.declared.Step.TheVariants.{More, Value, Dead}
use Rattle.bh_varint.specs.Step.{IsWhole, GoesOn, Shows}
use Rattle.bh_varint.proofs.Reading.{number_once, whole_finished, whole_begins}

pub value_exactly : (set : Allowed) (bytes : List ℕ) (step : Step) → Shows set bytes step → (n : ℕ) (w : Width) → (step ≡ Value n w) ↔ IsWhole set bytes n w
value_exactly set bytes More h n w = (λ e. absurd cc, λ whole. absurd (whole_finished n w bytes whole.fits whole.spelled h.unfinished))
value_exactly set bytes (Value m v) h n w = (to, from)
  where
    to : Value m v ≡ Value n w → IsWhole set bytes n w
    to e =
        let value : m ≡ n = cc in
        let width : v ≡ w = cc in
        subst₂ (λ (x : ℕ) (u : Width). IsWhole set bytes x u) value width h

    from : IsWhole set bytes n w → Value m v ≡ Value n w
    from whole =
        let same = number_once m n v w [] [] h.fits whole.fits (append-nil _ ∙ h.spelled ∙ sym whole.spelled ∙ sym (append-nil _)) in
        ap₂ (λ (x : ℕ) (u : Width). Value x u) same.0 same.1
value_exactly set bytes Dead h n w = (λ e. absurd cc, λ whole. absurd (h (whole_begins set bytes n w whole)))

pub more_exactly : (set : Allowed) (bytes : List ℕ) (step : Step) → Shows set bytes step → (step ≡ More) ↔ GoesOn set bytes
more_exactly set bytes More h = (λ e. h, λ on. refl)
more_exactly set bytes (Value n w) h = (λ e. absurd cc, λ on. absurd (whole_finished n w bytes h.fits h.spelled on.unfinished))
more_exactly set bytes Dead h = (λ e. absurd cc, λ on. absurd (h on.begins))

pub dead_exactly : (set : Allowed) (bytes : List ℕ) (step : Step) → Shows set bytes step → (step ≡ Dead) ↔ (SomeBegins set bytes → ⊥)
dead_exactly set bytes More h = (λ e. absurd cc, λ none. absurd (none h.begins))
dead_exactly set bytes (Value n w) h = (λ e. absurd cc, λ none. absurd (none (whole_begins set bytes n w h)))
dead_exactly set bytes Dead h = (λ e. h, λ none. refl)
