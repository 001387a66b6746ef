use Rattle.std.proofs.Common.{refl}
use Rattle.bh_push.specs.declared.course.Stage.TheVariants as stages
use Rattle.bh_push.proofs.Begun.{interim_walked, interim_begun_open, interim_says}
use Rattle.bh_push.proofs.Courses.{open_by}
use Rattle.bh_push.proofs.course.Course.first_interim_bytes.Goals as goal

pub interim_bytes-requires-clause-open : goal.interim_bytes-requires-clause-open
interim_bytes-requires-clause-open c =
    let few = open_by c.args.self.now (stages.BeforeInterim c.args.form c.args.before c.args.status) c.requires.stage c.requires.open in
    interim_begun_open c.args.self.now _ c.args.form c.args.before c.args.status refl c.begin.ensures c.requires.open.course refl refl few

pub returns : goal.returns
returns c =
    let few = open_by c.args.self.now (stages.BeforeInterim c.args.form c.args.before c.args.status) c.requires.stage c.requires.open in
    interim_says c.args.self.now _ c.interim_bytes.new.self c.args.form c.args.before c.args.status c.args.piece.now c.interim_bytes.result c.requires.stage refl refl
    (interim_walked c.args.self.now _ c.args.form c.args.before c.args.status c.args.piece.now c.requires.stage refl c.begin.ensures refl few
    (interim_begun_open c.args.self.now _ c.args.form c.args.before c.args.status refl c.begin.ensures c.requires.open.course refl refl few)) c.interim_bytes.ensures
