-- What goes out, one output behind the other.
use Rattle.std.proofs.Common.{◌≡◌, ℕ, Bool, true, false, List, [], ◌++◌, Result, Ok, Err, refl, sym, subst, ap, ap₂, ◌∙◌, append_assoc}
use Rattle.std.specs.Prelude.{IsErr}
use Rattle.bh_base.specs.declared.failed.Failed.{Failed}
use Rattle.bh_base.specs.Steps.{Step, none, given, is_bad_write, WroteAll}
use Rattle.bh_base.specs.StepLaws.{given-append, quiet_on, stops_on}
use Rattle.bh_base.specs.Batches.{Writes}
use Rattle.bh_base.proofs.Chains.{joined}
use Rattle.bh_stream.specs.Outputs.{Output, written}
use Rattle.bh_stream.specs.Jobs.{SendsRest}
use Rattle.bh_stream.proofs.Outputs.{written-append}

never : {A : Type 0} → ◌≡◌ {A = Bool} true false → A
never e = absurd (cc)

module _ {S : Type 0} {step : S → Step → S → Type 0} where
  -- nothing
  pub none_goes : {s : S} → SendsRest step true [] s (Ok tt) s
  none_goes = record { steps = []; chain = none; alone = λ e. never e; whole = (refl, refl); part = tt }

  -- what a writer sent, and a piece
  pub of_writer : {s t : S} {bytes : List ℕ} (text : Output) (r : Result (Unit {0}) Failed) → written text ≡ bytes → Writes step s bytes r t → SendsRest step true text s r t
  of_writer text (Ok a) e w = record { steps = w.steps; chain = w.chain; alone = λ e. never e; whole = (w.whole.1, sym w.whole.0 ∙ sym e); part = tt }
  of_writer text (Err x) e w = record { steps = w.steps; chain = w.chain; alone = λ e. never e; whole = tt; part = (w.part.2, record { rest = w.part.0; split = e ∙ w.part.1 }) }

  pub of_piece : {s t : S} {bytes : List ℕ} (text : Output) (r : Result (Unit {0}) Failed) → written text ≡ bytes → WroteAll step s bytes r t → SendsRest step true text s r t
  of_piece text (Ok a) e w = record { steps = w.steps; chain = w.chain; alone = λ e. never e; whole = (w.whole.1, w.whole.0 ∙ sym e); part = tt }
  of_piece text (Err x) e w = record { steps = w.steps; chain = w.chain; alone = λ e. never e; whole = tt; part = (w.part.2, record { rest = w.part.0; split = e ∙ w.part.1 }) }

  -- the same output
  pub goes_as : {s t : S} (x y : Output) (r : Result (Unit {0}) Failed) → x ≡ y → SendsRest step true x s r t → SendsRest step true y s r t
  goes_as {s = s} {t = t} x y r e h = subst (λ (o : Output). SendsRest step true o s r t) e h

  -- one behind the other, and one of which a write failed
  pub goes_on : {s t u : S} (x y : Output) (r : Result (Unit {0}) Failed) → SendsRest step true x s (Ok tt) t → SendsRest step true y t r u → SendsRest step true (x ++ y) s r u
  goes_on x y (Ok a) v w = record {
    steps = v.steps ++ w.steps;
    chain = joined v.chain w.chain;
    alone = λ e. never e;
    whole = (quiet_on v.steps w.steps v.whole.0 w.whole.0, given-append v.steps w.steps ∙ ap₂ (λ (k l : List ℕ). k ++ l) v.whole.1 w.whole.1 ∙ sym (written-append x y));
    part = tt;
  }
  goes_on x y (Err f) v w = record {
    steps = v.steps ++ w.steps;
    chain = joined v.chain w.chain;
    alone = λ e. never e;
    whole = tt;
    part = (
      stops_on is_bad_write v.steps w.steps v.whole.0 w.part.0,
      record {
        rest = w.part.1.rest;
        split = written-append x y ∙ ap₂ (λ (k l : List ℕ). k ++ l) (sym v.whole.1) w.part.1.split ∙ sym (append_assoc (given v.steps) (given w.steps) w.part.1.rest)
            ∙ ap (λ (l : List ℕ). l ++ w.part.1.rest) (sym (given-append v.steps w.steps));
      },
    );
  }

  pub goes_off : {s t : S} (x y : Output) (first r : Result (Unit {0}) Failed) {f : Failed} → first ≡ Err f → IsErr r → SendsRest step true x s first t → SendsRest step true (x ++ y) s r t
  goes_off x y (Ok a) r e bad v = absurd (cc)
  goes_off x y (Err f) (Ok a) e bad v = absurd (cc)
  goes_off x y (Err f) (Err g) e bad v = record {
    steps = v.steps;
    chain = v.chain;
    alone = λ e. never e;
    whole = tt;
    part = (
      v.part.0,
      record {
        rest = v.part.1.rest ++ written y;
        split = written-append x y ∙ ap (λ (l : List ℕ). l ++ written y) v.part.1.split ∙ append_assoc (given v.steps) v.part.1.rest (written y);
      },
    );
  }
