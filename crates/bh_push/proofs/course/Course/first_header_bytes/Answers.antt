use Rattle.std.proofs.Common.{refl}
use Rattle.bh_push.proofs.Begun.{header_walked, header_begun_open, header_says}
use Rattle.bh_push.proofs.course.Course.first_header_bytes.Goals as goal

pub header_bytes-requires-clause-open : goal.header_bytes-requires-clause-open
header_bytes-requires-clause-open c = header_begun_open c.args.self.now _ c.args.form refl c.begin.ensures c.requires.open.course refl refl

pub returns : goal.returns
returns c =
    header_says c.args.self.now _ c.header_bytes.new.self c.args.form c.args.piece.now c.header_bytes.result c.requires.stage refl refl
    (header_walked c.args.self.now _ c.args.form c.args.piece.now c.requires.stage refl c.begin.ensures refl refl
    (header_begun_open c.args.self.now _ c.args.form refl c.begin.ensures c.requires.open.course refl refl)) c.header_bytes.ensures
