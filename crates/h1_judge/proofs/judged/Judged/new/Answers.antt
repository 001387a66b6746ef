use Rattle.h1_judge.specs.Judges.{view_of}
use Rattle.h1_judge.proofs.Starting.{ready_here}
use Rattle.h1_judge.proofs.judged.Judged.new.Goals as goal

pub returns-clause-ready : goal.returns-clause-ready
returns-clause-ready c =
    let e = c.in_ok-judge.ensures in
    ready_here c.args.limits.now e.limits c.args.to_head (view_of c.in_ok-reading.reading c.in_ok-judge.judge)
    (record { reading = c.in_ok-reading.ensures; to_head_is = e.to_head; course = e.start })
