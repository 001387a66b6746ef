use Rattle.bh_decode.proofs.Numbers.{AtByte}
use Rattle.bh_decode.proofs.number.read_number.Given as goal

abbrev pub invariant-loop-i : goal.invariant-loop-i
invariant-loop-i l = AtByte l.most l.bytes l.partial l.i
