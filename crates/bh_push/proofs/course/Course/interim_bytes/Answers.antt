use Rattle.std.proofs.Common.{◌+◌, refl, arith}
use Rattle.bh_spec.proofs.Within.{within_some}
use Rattle.bh_push.specs.declared.course.Stage.TheVariants as stages
use Rattle.bh_push.proofs.Courses.{open_by}
use Rattle.bh_push.proofs.Responding.{interim_need, interim_end, interim_refused, interim_limited}
use Rattle.bh_push.proofs.course.Course.interim_bytes.Goals as goal

pub unreachable-prove : goal.unreachable-prove
unreachable-prove c =
    let at = open_by c.args.self.now (stages.Interim c.args.form c.args.before c.args.status) c.requires.stage c.requires.open in
    omega (arith, c.if-prove.true, within_some c.args.self.now.limits.interims c.interims-most.result (c.args.before + 1) c.interims-most.ensures.value at.0)

pub returns-in-Need : goal.returns-in-Need
returns-in-Need c =
    interim_need c.args.self.now _ c.args.form c.args.before c.args.status c.args.piece.now c.requires.stage c.requires.stage c.requires.open c.requires.some c.in-Need.ensures.behind
    c.in-Need.ensures.shows refl refl

pub returns-in-Whole : goal.returns-in-Whole
returns-in-Whole c =
    interim_end c.args.self.now _ c.args.form c.args.before c.args.status c.args.piece.now c.in-Whole.taken c.requires.stage refl c.new-self.ensures c.requires.open c.in-Whole.ensures.shows
    c.in-Whole.ensures.behind refl refl

pub returns-in-Dead : goal.returns-in-Dead
returns-in-Dead c =
    interim_refused c.args.self.now _ c.args.form c.args.before c.args.status c.args.piece.now c.in-Dead.offset c.in-Dead.part c.requires.stage c.requires.stage c.requires.open
    c.in-Dead.ensures.shows c.in-Dead.ensures.behind refl refl refl

pub returns-in-Limit : goal.returns-in-Limit
returns-in-Limit c =
    interim_limited c.args.self.now _ c.args.form c.args.before c.args.status c.args.piece.now c.in-Limit.offset c.in-Limit.part c.requires.stage c.requires.stage c.requires.open
    c.in-Limit.ensures.shows c.in-Limit.ensures.behind refl refl refl
