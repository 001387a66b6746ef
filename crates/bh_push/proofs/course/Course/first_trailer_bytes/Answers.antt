use Rattle.std.proofs.Common.{refl}
use Rattle.bh_push.proofs.Bodied.{trailers_open, behind_says, over_head}
use Rattle.bh_push.proofs.course.Course.first_trailer_bytes.Goals as goal

pub trailer_bytes-requires-clause-open : goal.trailer_bytes-requires-clause-open
trailer_bytes-requires-clause-open c = trailers_open c.args.self.now _ c.args.self.now.body.form c.args.self.now.section refl c.begin.ensures c.requires.open.course refl refl refl

pub returns : goal.returns
returns c =
    behind_says c.args.self.now _ c.trailer_bytes.new.self c.args.self.now.body.form c.args.self.now.section c.args.piece.now c.trailer_bytes.result
    (record { content = c.requires.stage; over = c.requires.over; form_is = refl; stage = refl; section = c.begin.ensures; limits = refl; head = over_head c.args.self.now c.requires.stage }) c.trailer_bytes.ensures
