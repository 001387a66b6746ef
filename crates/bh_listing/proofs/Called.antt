-- A call that writes the listing, by what the loop did.
use Rattle.std.proofs.Common.{true}
use Rattle.bh_spec.specs.declared.Refusal.{Refusal}
use Rattle.bh_spec.specs.declared.Summary.{Summary}
use Rattle.bh_spec.specs.Bounds.{Bounds}
use Rattle.bh_spec.specs.Listing.{show}
use Rattle.bh_base.specs.Steps.{Step}
use Rattle.bh_model.specs.Ranges.{AreLimits}
use Rattle.bh_stream.specs.Runs.{Streams}
use Rattle.bh_stream.specs.declared.streaming.End.{End}
use Rattle.bh_stream.proofs.Calls.{stream_call}
use Rattle.bh_stream.proofs.Formats.{keeps_up}
use Rattle.bh_stream.proofs.Messages.{keeps_messages}
use Rattle.bh_reading.specs.Readings.{Counted, rest, room, Moved, IsAtStart, refuses, tells, misses}
use Rattle.bh_reading.specs.ReadingLaws.{reading_laws}
use Rattle.bh_reading.proofs.Counts.{few_counts}
use Rattle.bh_reading.proofs.Judging.{reading_judges}
use Rattle.bh_reading.proofs.AtStart.{knows_at_start}
use Rattle.bh_listing.specs.Owed.{at_start, owed}
use Rattle.bh_listing.specs.Shown.{Shown}
use Rattle.bh_listing.specs.Listed.{ListedCall}
use Rattle.bh_listing.proofs.Owing.{owes_show}
use Rattle.bh_listing.proofs.Fronts.{shows_content}

pub was_listed : (L : Bounds) → AreLimits L → (v : Counted) → IsAtStart L v → {S : Type 0} {read write : S → Step → S → Type 0} {s t : S} (r : End Summary Refusal)
    → Streams rest room Moved refuses tells misses true 31 read write v (owed at_start) s r t → ListedCall L read write s r t
was_listed L limits v start r h =
    let knows = knows_at_start L limits v start show (owed at_start) (owes_show L) in
    record {
      steps = h.steps;
      call = stream_call L show v (owed at_start) reading_laws knows (reading_judges L (few_counts L limits) v start) r h;
      keeps_up = keeps_messages L Shown 8223 31 h.steps (keeps_up knows reading_laws Shown (shows_content L) h);
    }
