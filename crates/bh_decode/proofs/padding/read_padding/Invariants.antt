use Rattle.std.proofs.Common.{◌≡◌, take, replicate}
use Rattle.bh_decode.proofs.padding.read_padding.Given as goal

abbrev pub invariant-loop-i : goal.invariant-loop-i
invariant-loop-i l = take l.i l.bytes ≡ replicate l.i 0
