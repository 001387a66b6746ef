use Rattle.std.proofs.Common.{refl}
use Rattle.bh_push.proofs.Courses.{padding_on, padding_refused}
use Rattle.bh_push.proofs.course.Course.padding_byte.Goals as goal

pub returns-then-piece-ne0 : goal.returns-then-piece-ne0
returns-then-piece-ne0 c = padding_refused c.args.self.now c.args.before c.args.piece.now c.requires.stage c.requires.open c.requires.some c.if-piece-ne0.true

pub returns : goal.returns
returns c = padding_on c.args.self.now _ c.args.before c.args.piece.now c.requires.stage refl c.requires.open c.requires.some c.if-piece-ne0.false refl refl refl refl
