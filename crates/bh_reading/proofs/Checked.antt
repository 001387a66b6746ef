-- A check of a message, by what the loop did.
use Rattle.std.proofs.Common.{false, [], refl}
use Rattle.bh_spec.specs.declared.Refusal.{Refusal}
use Rattle.bh_spec.specs.declared.Summary.{Summary}
use Rattle.bh_spec.specs.Bounds.{Bounds}
use Rattle.bh_base.specs.Steps.{Step}
use Rattle.bh_model.specs.Ranges.{AreLimits}
use Rattle.bh_stream.specs.Runs.{Streams}
use Rattle.bh_stream.specs.declared.streaming.End.{End}
use Rattle.bh_stream.proofs.Calls.{stream_call}
use Rattle.bh_reading.specs.Readings.{Counted, rest, room, Moved, IsAtStart, refuses, tells, misses}
use Rattle.bh_reading.specs.Checks.{CheckCall}
use Rattle.bh_reading.specs.ReadingLaws.{reading_laws}
use Rattle.bh_reading.proofs.Counts.{few_counts}
use Rattle.bh_reading.proofs.Judging.{reading_judges}
use Rattle.bh_reading.proofs.AtStart.{knows_at_start}

pub checked : (L : Bounds) → AreLimits L → (v : Counted) → IsAtStart L v → {S : Type 0} {read write : S → Step → S → Type 0} {s t : S} (r : End Summary Refusal)
    → Streams rest room Moved refuses tells misses false 0 read write v (λ q. []) s r t → CheckCall L read write s r t
checked L limits v start r h = record {
  steps = h.steps;
  call = stream_call L (λ m. []) v (λ q. []) reading_laws (knows_at_start L limits v start (λ m. []) (λ q. []) (λ m o z t k. refl)) (reading_judges L (few_counts L limits) v start) r h;
  only_reads = h.only_reads refl;
}
