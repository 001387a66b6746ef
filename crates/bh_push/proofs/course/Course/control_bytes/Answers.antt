use Rattle.std.proofs.Common.{refl}
use Rattle.bh_push.proofs.Requesting.{control_need, control_end, control_refused, control_limited}
use Rattle.bh_push.proofs.course.Course.control_bytes.Goals as goal

pub returns-in-Need : goal.returns-in-Need
returns-in-Need c =
    control_need c.args.self.now _ c.args.form c.args.piece.now c.requires.stage c.requires.stage c.requires.open c.requires.some c.in-Need.ensures.behind c.in-Need.ensures.shows refl refl

pub returns-in-Whole : goal.returns-in-Whole
returns-in-Whole c =
    control_end c.args.self.now _ c.args.form c.args.piece.now c.in-Whole.taken c.requires.stage refl c.requires.open c.in-Whole.ensures.shows c.in-Whole.ensures.behind refl
    refl refl

pub returns-in-Dead : goal.returns-in-Dead
returns-in-Dead c =
    control_refused c.args.self.now _ c.args.form c.args.piece.now c.in-Dead.offset c.in-Dead.part c.requires.stage c.requires.stage c.requires.open c.in-Dead.ensures.shows c.in-Dead.ensures.behind refl refl refl

pub returns-in-Limit : goal.returns-in-Limit
returns-in-Limit c =
    control_limited c.args.self.now _ c.args.form c.args.piece.now c.in-Limit.offset c.in-Limit.part c.requires.stage c.requires.stage c.requires.open c.in-Limit.ensures.shows c.in-Limit.ensures.behind refl refl refl
