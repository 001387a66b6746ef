use Rattle.bh_control.proofs.Controls.{IsOn}
use Rattle.bh_control.proofs.control.ControlReader.push.Given as goal

abbrev pub invariant-loop-offset : goal.invariant-loop-offset
invariant-loop-offset l = IsOn l.fn.self l.self l.piece l.offset l.part
