-- A line that was written, and what it says of the sink.
use Rattle.std.proofs.Common.{◌≡◌, ◌∙◌, ℕ, List, Option, Result, Ok, Err, sym, inl, inr}
use Rattle.std.specs.List.{list_any}
use Rattle.bh_base.specs.declared.failed.Failed.{Failed}
use Rattle.bh_base.specs.Steps.{Step, WriteFacts, WroteAll, fails, is_bad_write}
use Rattle.bh_base.specs.StepLaws.{stops_fails, bad_writes_fail, stayed, rose}
use Rattle.bh_base.proofs.Chains.{write_chain}
use Rattle.bh_cmd.specs.Runs.{IsPrinted}

module _ {S : Type 0} {write : S → Step → S → Type 0} {sent : S → Option (List ℕ)} {faults : S → ℕ} (law : (s t : S) (x : Step) → write s x t → WriteFacts sent faults s x t)
    (piece line : List ℕ) (same : piece ≡ line) {s t : S} where
  pub printed : (r : Result (Unit {0}) Failed) → WroteAll write s piece r t → IsPrinted write sent faults line s t
  printed (Ok done) h =
      let facts = write_chain law h.chain in
      record {
        steps = h.steps;
        chain = h.chain;
        told = facts.goes;
        all = inl (h.whole.0 ∙ same, stayed (list_any fails h.steps) (faults s) (faults t) h.whole.1 facts.counts);
      }
  printed (Err failed) h =
      let facts = write_chain law h.chain in
      record {
        steps = h.steps;
        chain = h.chain;
        told = facts.goes;
        all = inr (h.part.0, sym same ∙ h.part.1, rose (list_any fails h.steps) (faults s) (faults t) (stops_fails is_bad_write fails h.steps bad_writes_fail h.part.2) facts.counts);
      }
