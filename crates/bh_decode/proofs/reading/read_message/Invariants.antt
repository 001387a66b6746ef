use Rattle.std.proofs.Common.{◌-◌, length}
use Rattle.bh_decode.proofs.Making.{Sofar}
use Rattle.bh_decode.proofs.reading.read_message.Given as goal

abbrev pub invariant-loop-at : goal.invariant-loop-at
invariant-loop-at l = Sofar l.fn.limits l.fn.bytes l.at l.decoder l.gathered

abbrev pub decreases-loop-at : goal.decreases-loop-at
decreases-loop-at l = length l.bytes - l.at
