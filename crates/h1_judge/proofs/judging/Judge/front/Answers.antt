use Rattle.std.proofs.Common.{◌+◌, ◌-◌, sym, subst, arith}
use Rattle.h1_judge.specs.Judges.{IsFront}
use Rattle.h1_judge.proofs.Fronts.{front_of}
use Rattle.h1_judge.proofs.judging.Judge.front.Goals as goal

pub returns-in-Empty-clause-front : goal.returns-in-Empty-clause-front
returns-in-Empty-clause-front c = subst (IsFront c.args.piece.now) (sym c.first_of.ensures) (front_of c.args.piece.now 1 (omega arith))

pub returns-in-Counted-clause-front : goal.returns-in-Counted-clause-front
returns-in-Counted-clause-front c = subst (IsFront c.args.piece.now) (sym c.first_of-in-Counted.ensures)
    (front_of c.args.piece.now (c.in-Counted.field - c.args.self.now.counted + 1) (omega arith))
