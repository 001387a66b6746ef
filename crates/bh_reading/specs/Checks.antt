-- What a check of a message did.
use Rattle.std.specs.Prelude.{List, []}
use Rattle.bh_spec.specs.declared.Summary.{Summary}
use Rattle.bh_spec.specs.declared.Refusal.{Refusal}
use Rattle.bh_spec.specs.Bounds.{Bounds}
use Rattle.bh_base.specs.Steps.{Step, OnlyReads}
use Rattle.bh_stream.specs.Calls.{StreamCall}
use Rattle.bh_stream.specs.declared.streaming.End.{End}

-- It read a message from a stream as every call does, and wrote nothing: it made no call of the sink.
pub record CheckCall (L : Bounds) {S : Type 0} (read write : S → Step → S → Type 0) (s : S) (r : End Summary Refusal) (t : S) : Type 0 where
  pub steps : List Step
  pub call : StreamCall L (λ m. []) read write steps s r t
  pub only_reads : OnlyReads steps
