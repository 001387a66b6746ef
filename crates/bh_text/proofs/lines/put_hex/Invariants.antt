use Rattle.std.proofs.Common.{length}
use Rattle.bh_text.proofs.Digits.{DigitsSo}
use Rattle.bh_text.proofs.lines.put_hex.Given as goal

abbrev pub invariant-loop-rest : goal.invariant-loop-rest
invariant-loop-rest g l = DigitsSo g.S.Sink.write_step l.initial.sink l.initial.out l.bytes l.rest l.sink l.out

abbrev pub decreases-loop-rest : goal.decreases-loop-rest
decreases-loop-rest g l = length l.rest
