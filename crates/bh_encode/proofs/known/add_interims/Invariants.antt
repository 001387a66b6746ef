use Rattle.std.proofs.Common.{◌≡◌, ◌++◌, take}
use Rattle.bh_encode.proofs.Adding.{interims_text}
use Rattle.bh_encode.proofs.known.add_interims.Given as goal

abbrev pub invariant-loop-i : goal.invariant-loop-i
invariant-loop-i l = l.text.items ≡ l.initial.text.items ++ interims_text (take l.i l.interims)
