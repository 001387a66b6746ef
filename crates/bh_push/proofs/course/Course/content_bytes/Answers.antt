use Rattle.std.proofs.Common.{refl}
use Rattle.bh_push.proofs.Bodied.{content_need, content_over, content_some, content_refused}
use Rattle.bh_push.proofs.course.Course.content_bytes.Goals as goal

pub returns-in-Need : goal.returns-in-Need
returns-in-Need c =
    content_need c.args.self.now _ c.args.piece.now c.requires.stage c.requires.stage c.requires.open c.requires.some c.in-Need.ensures.says c.in-Need.ensures.body
    (record { limits = refl; control = refl; status = refl; section = refl })

pub returns-in-Content : goal.returns-in-Content
returns-in-Content c =
    content_some c.args.self.now _ c.args.piece.now c.in-Content.bytes.now c.in-Content.taken c.requires.stage c.requires.stage c.requires.open c.in-Content.ensures.says c.in-Content.ensures.body
    (record { limits = refl; control = refl; status = refl; section = refl }) c.in-Content.ensures.right

pub returns-in-Over : goal.returns-in-Over
returns-in-Over c =
    let s = c.in-Over.ensures.says in
    content_over c.args.self.now _ c.args.piece.now c.in-Over.taken c.requires.stage c.requires.stage c.requires.open s.3 s.0 s.2 c.in-Over.ensures.body
    (record { limits = refl; control = refl; status = refl; section = refl })

pub returns-in-Dead : goal.returns-in-Dead
returns-in-Dead c =
    content_refused c.args.self.now _ c.args.piece.now c.in-Dead.offset c.push.new.self.form c.length_part.result c.requires.stage c.requires.stage c.requires.open
    (record { limits = refl; control = refl; status = refl; section = refl }) c.in-Dead.ensures.form c.length_part.ensures
    c.in-Dead.ensures.says c.in-Dead.ensures.stood.0 c.in-Dead.ensures.stood.1 c.in-Dead.ensures.stood.2
