use Rattle.std.proofs.Common.{◌≡◌, ◌+◌, ◌++◌, length, take}
use Rattle.bh_cmd.specs.Trials.{content_from}
use Rattle.bh_cmd.proofs.making.put_content.Given as goal

abbrev pub invariant-loop-i : goal.invariant-loop-i
invariant-loop-i l = (length l.ready ≡ 1024) × (take (l.at + l.i) l.ready ≡ take l.fn.at l.fn.ready ++ content_from l.fn.from l.i)
