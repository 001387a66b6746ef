-- What a call that writes the listing did.
use Rattle.std.specs.Prelude.{List}
use Rattle.bh_spec.specs.declared.Refusal.{Refusal}
use Rattle.bh_spec.specs.declared.Summary.{Summary}
use Rattle.bh_spec.specs.Bounds.{Bounds}
use Rattle.bh_spec.specs.Listing.{show}
use Rattle.bh_spec.specs.Viable.{IsMessageText}
use Rattle.bh_base.specs.Steps.{Step}
use Rattle.bh_stream.specs.Calls.{StreamCall}
use Rattle.bh_stream.specs.Logs.{KeepsUp}
use Rattle.bh_stream.specs.declared.streaming.End.{End}
use Rattle.bh_listing.specs.Shown.{Shown}

-- It read a message from a stream as every call does, and wrote its listing. At every point of the calls the content taken is at most
-- 8,223 bytes more than the content that the whole lines given show: a line that isn't full, and one read. Before each read it is at
-- most 31 bytes more, so every full line was written.
pub record ListedCall (L : Bounds) {S : Type 0} (read write : S → Step → S → Type 0) (s : S) (r : End Summary Refusal) (t : S) :
    Type 0 where
  pub steps : List Step
  pub call : StreamCall L show read write steps s r t
  pub keeps_up : KeepsUp (IsMessageText L) Shown 8223 31 steps
