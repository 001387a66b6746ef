-- A call that writes the canonical text, by what the loop did.
use Rattle.std.proofs.Common.{true, false}
use Rattle.bh_spec.specs.declared.Refusal.{Refusal}
use Rattle.bh_spec.specs.declared.Summary.{Summary}
use Rattle.bh_spec.specs.Bounds.{Bounds}
use Rattle.bh_spec.specs.Canonical.{canon}
use Rattle.bh_spec.specs.Viable.{IsMessageText}
use Rattle.bh_base.specs.Steps.{Step}
use Rattle.bh_model.specs.Ranges.{AreLimits}
use Rattle.bh_stream.specs.Logs.{HasBody}
use Rattle.bh_stream.specs.Runs.{Streams}
use Rattle.bh_stream.specs.Messages.{KnowsMessages}
use Rattle.bh_stream.specs.declared.streaming.End.{End}
use Rattle.bh_stream.proofs.Calls.{stream_call}
use Rattle.bh_stream.proofs.Formats.{keeps_up}
use Rattle.bh_stream.proofs.Messages.{keeps_messages}
use Rattle.bh_reading.specs.Readings.{Counted, rest, room, Moved, IsAtStart, refuses, tells, misses}
use Rattle.bh_reading.specs.ReadingLaws.{reading_laws}
use Rattle.bh_reading.proofs.Counts.{few_counts}
use Rattle.bh_reading.proofs.Judging.{reading_judges}
use Rattle.bh_reading.proofs.AtStart.{knows_at_start}
use Rattle.bh_canonical.specs.Owed.{message_owed}
use Rattle.bh_canonical.specs.Calls.{CanonicalCall}
use Rattle.bh_canonical.proofs.Owes.{owes_canon, shows_content}

pub called : (L : Bounds) → AreLimits L → (v : Counted) → IsAtStart L v → {S : Type 0} {read write : S → Step → S → Type 0} {s t : S} (r : End Summary Refusal)
    → Streams rest room Moved refuses tells misses true 8191 read write v (message_owed false) s r t → CanonicalCall L read write s r t
called L limits v start r h =
    let knows : KnowsMessages L canon rest room v (message_owed false) = knows_at_start L limits v start canon (message_owed false) (λ m o z t k. owes_canon L m o z t k) in
    record {
      steps = h.steps;
      call = stream_call L canon v (message_owed false) reading_laws knows (reading_judges L (few_counts L limits) v start) r h;
      keeps_up = keeps_messages L (HasBody (IsMessageText L)) 16383 8191 h.steps (keeps_up knows reading_laws (HasBody (IsMessageText L)) (shows_content L limits) h);
    }
