use Rattle.std.proofs.Common.{length, ◌≤◌, ◌-◌}
use Rattle.bh_fields.proofs.Exactly.{IsOn}
use Rattle.bh_fields.proofs.reader.SectionReader.push.Given as goal

abbrev pub invariant-loop-offset : goal.invariant-loop-offset
invariant-loop-offset l = (l.offset ≤ length l.piece) × IsOn l.fn.self l.self l.piece l.offset l.part

abbrev pub decreases-loop-offset : goal.decreases-loop-offset
decreases-loop-offset l = length l.piece - l.offset
