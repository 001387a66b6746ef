use Rattle.std.proofs.Common.{refl}
use Rattle.bh_push.specs.declared.body.Phase.TheVariants as phases
use Rattle.bh_spec.specs.declared.Part.TheVariants as parts
use Rattle.bh_push.proofs.Nexts.{next_content}
use Rattle.bh_push.proofs.course.Course.content_part.Goals as goal

pub returns-in-Head : goal.returns-in-Head
returns-in-Head c = next_content c.args.self.now phases.Head c.length_part.result c.requires.stage c.requires.open c.in-Head.is c.length_part.ensures

pub returns-in-Length : goal.returns-in-Length
returns-in-Length c = next_content c.args.self.now phases.Length c.length_part-in-Length.result c.requires.stage c.requires.open c.in-Length.is c.length_part-in-Length.ensures

pub returns-in-Run : goal.returns-in-Run
returns-in-Run c = next_content c.args.self.now (phases.Run c.in-Run.missing) parts.Content c.requires.stage c.requires.open c.in-Run.is refl

pub returns-in-Over : goal.returns-in-Over
returns-in-Over c = next_content c.args.self.now phases.Over c.section_part.result c.requires.stage c.requires.open c.in-Over.is c.section_part.ensures
