use Rattle.std.proofs.Common.{◌-◌, length}
use Rattle.h1_judge.proofs.Turns.{Turn}
use Rattle.h1_judge.proofs.steps.take.Given as goal

abbrev pub invariant-loop-taken : goal.invariant-loop-taken
invariant-loop-taken l = Turn l.fn.reading l.fn.judge l.piece l.taken l.reading l.judge

abbrev pub decreases-loop-taken : goal.decreases-loop-taken
decreases-loop-taken l = length l.piece - l.taken
