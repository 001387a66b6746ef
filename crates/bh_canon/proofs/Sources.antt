-- What a source tells of a check, by what the check did.
use Rattle.std.proofs.Common.{◌≡◌, ℕ, Bool, true, List, [], Option, Some, None, IfSome, refl, ap, arith}
use Rattle.std.specs.Io.KnownBytes.{IsAtEnd}
use Rattle.bh_spec.specs.Bounds.{Bounds}
use Rattle.bh_spec.specs.Answers.{IsAnswer}
use Rattle.bh_base.specs.Steps.{Step, Chain, Either, Rose, ReadFacts, ReadLeaves, AreWithinRoom}
use Rattle.bh_base.proofs.Chains.{chain_facts}
use Rattle.bh_stream.specs.Messages.{IsTextOf}
use Rattle.bh_stream.specs.Telling.{Tells, Completes}
use Rattle.bh_stream.specs.declared.streaming.End.TheVariants as end
use Rattle.bh_canon.specs.declared.engine.CheckEnd.{CheckEnd}
use Rattle.bh_canon.specs.declared.engine.CheckEnd.TheVariants as checks
use Rattle.bh_canon.specs.Ends.{checked, end_of}
use Rattle.bh_canon.specs.Lending.{NoWrite}
use Rattle.bh_canon.specs.Calls.{SourceCheck}
use Rattle.bh_canon.specs.Telling.{IsRight, CheckTold, SourceTold, SourceCompletes}
use Rattle.bh_canon.proofs.Telling.{told_call, counted_call, complete_call}

-- what is told of a call that writes nothing
abbrev NothingTold : Bounds → CheckEnd → List ℕ → Option (List ℕ) → Type 0
NothingTold L r input left = Tells (IsTextOf L) (λ m. []) L.input (IsRight L (λ m. [])) (checked r) input left None None

check_told : (L : Bounds) (r : CheckEnd) (input : List ℕ) (left : Option (List ℕ)) → NothingTold L r input left → CheckTold L (checked r) input left
check_told L (checks.Done s) input left h = let w = h.right in (w.message, w.omitted, w.padding, w.answer, w.summary_is, h.all)
check_told L (checks.Refused r) input left h = h.right.0
check_told L checks.ReadFault input left h = tt

is_read_fault : (r : CheckEnd) → checked r ≡ end.ReadFault → r ≡ checks.ReadFault
is_read_fault (checks.Done s) e = absurd cc
is_read_fault (checks.Refused r) e = absurd cc
is_read_fault checks.ReadFault e = refl

none_rose : Rose 0 0 → ⊥
none_rose h = absurd (omega (arith, h))

module _ (L : Bounds) {S : Type 0} {read : S → Step → S → Type 0} {left : S → Option (List ℕ)} {faults : S → ℕ} {ended : S → Bool}
    (read_law : (s t : S) (x : Step) → read s x t → ReadFacts left faults ended s x t)
    (ended_law : (s : S) → ended s ≡ true → IsAtEnd (left s)) where
  leaves : (s t : S) (x : Step) → read s x t → ReadLeaves (λ s. None) (λ s. 0) (λ s. None) s x t
  leaves s t x h = record { same_sent = refl; same_faults = refl; logs = tt }

  pub reads_fit : (s t : S) (steps : List Step) → Chain (Either read NoWrite) s steps t → AreWithinRoom steps
  reads_fit s t steps chain = (chain_facts {sent = λ s. None} {write_faults = λ s. 0} {log = λ s. None} read_law leaves (λ s t x h. absurd h) (λ s t x h. absurd h) chain).fits

  module _ (s t : S) (r : CheckEnd) (call : SourceCheck L read s (checked r) t) where
    pub source_told : SourceTold L (checked r) (left s) (left t)
    source_told = by_left (left s) (told_call L (λ m. []) {sent = λ s. None} {write_faults = λ s. 0} {log = λ s. None} read_law ended_law (λ s t x h. absurd h) leaves (λ s t x h. absurd h) s t (checked r) call.steps call.call)
      where
        by_left : (o : Option (List ℕ)) → IfSome o (λ input. NothingTold L r input (left t)) → IfSome o (λ input. CheckTold L (checked r) input (left t))
        by_left None h = tt
        by_left (Some input) h = check_told L r input (left t) h

    pub source_completes : SourceCompletes L (checked r) (left s) (faults s) (faults t)
    source_completes = by_left (left s) (complete_call L (λ m. []) {sent = λ s. None} {write_faults = λ s. 0} {log = λ s. None} read_law ended_law (λ s t x h. absurd h) leaves (λ s t x h. absurd h) s t (checked r) call.steps call.call)
      where
        by_left : (o : Option (List ℕ)) → IfSome o (λ input. Completes (IsAnswer L) end_of (checked r) input (faults s) (faults t) 0 0) → SourceCompletes L (checked r) o (faults s) (faults t)
        by_left None h = tt
        by_left (Some input) h = λ a v nr. h a v nr none_rose

    pub source_counts : (r ≡ checks.ReadFault → Rose (faults s) (faults t)) × ((r ≡ checks.ReadFault → ⊥) → faults t ≡ faults s)
    source_counts =
        let c = counted_call L (λ m. []) {sent = λ s. None} {write_faults = λ s. 0} {log = λ s. None} read_law ended_law (λ s t x h. absurd h) leaves (λ s t x h. absurd h) s t (checked r) call.steps call.call in
        (λ e. c.read_fault (ap checked e), λ no. c.quiet_reads (λ e. no (is_read_fault r e)))
