-- What a call of the engine did, by the calls of its port or source.
use Rattle.std.specs.Prelude.{List, []}
use Rattle.bh_spec.specs.declared.Summary.{Summary}
use Rattle.bh_spec.specs.declared.Refusal.{Refusal}
use Rattle.bh_spec.specs.Bounds.{Bounds}
use Rattle.bh_base.specs.Steps.{Step, OnlyReads}
use Rattle.bh_stream.specs.Calls.{StreamCall}
use Rattle.bh_stream.specs.declared.streaming.End.{End}
use Rattle.bh_canonical.specs.Calls.{CanonicalCall}
use Rattle.bh_listing.specs.Listed.{ListedCall}
use Rattle.bh_canon.specs.Telling.{TakesFew}
use Rattle.bh_canon.specs.Lending.{NoWrite}

-- It read a message from a stream and wrote its canonical text; and where the input is refused, it took few bytes.
pub record CanonCall (L : Bounds) {S : Type 0} (read write : S → Step → S → Type 0) (s : S)
    (r : End Summary Refusal) (t : S) : Type 0 where
  pub wrote : CanonicalCall L read write s r t
  pub few : TakesFew r wrote.steps

-- It wrote its listing.
pub record ShowCall (L : Bounds) {S : Type 0} (read write : S → Step → S → Type 0) (s : S)
    (r : End Summary Refusal) (t : S) : Type 0 where
  pub wrote : ListedCall L read write s r t
  pub few : TakesFew r wrote.steps

-- It read a message from a source, and did nothing else.
pub record SourceCheck (L : Bounds) {S : Type 0} (read : S → Step → S → Type 0) (s : S)
    (r : End Summary Refusal) (t : S) : Type 0 where
  pub steps : List Step
  pub call : StreamCall L (λ m. []) read NoWrite steps s r t
  pub only_reads : OnlyReads steps
  pub few : TakesFew r steps
