-- What a call that writes the canonical text did.
use Rattle.std.specs.Prelude.{List}
use Rattle.bh_spec.specs.declared.Refusal.{Refusal}
use Rattle.bh_spec.specs.declared.Summary.{Summary}
use Rattle.bh_spec.specs.Bounds.{Bounds}
use Rattle.bh_spec.specs.Canonical.{canon}
use Rattle.bh_spec.specs.Viable.{IsMessageText}
use Rattle.bh_base.specs.Steps.{Step}
use Rattle.bh_stream.specs.Calls.{StreamCall}
use Rattle.bh_stream.specs.Logs.{HasBody, KeepsUp}
use Rattle.bh_stream.specs.declared.streaming.End.{End}

-- It read a message from a stream as every call does, and wrote its canonical text. At every point of the calls the content taken is
-- at most 16,383 bytes more than the content given: an open chunk, and one read. Before each read it is at most 8,191 bytes more, so
-- every whole chunk was written. Content is counted in the longest front of the bytes that begins a text of a message, and a
-- canonical text is one.
pub record CanonicalCall (L : Bounds) {S : Type 0} (read write : S → Step → S → Type 0) (s : S) (r : End Summary Refusal)
    (t : S) : Type 0 where
  pub steps : List Step
  pub call : StreamCall L canon read write steps s r t
  pub keeps_up : KeepsUp (IsMessageText L) (HasBody (IsMessageText L)) 16383 8191 steps
