use Rattle.std.proofs.Common.{ap, subst, ◌∙◌}
use Rattle.bh_spec.specs.declared.Judged.TheVariants as judged
use Rattle.bh_fields.specs.declared.walk.Phase.TheVariants as phases
use Rattle.bh_fields.specs.Middle.{SectionView}
use Rattle.bh_fields.specs.Points.{point_of}
use Rattle.bh_fields.specs.Views.{view_at, Takes}
use Rattle.bh_fields.proofs.Beginning.{take_more, take_whole, take_limit, take_dead}
use Rattle.bh_fields.proofs.reader.SectionReader.take.Goals as goal

pub invariant_of-self : goal.invariant_of-self
invariant_of-self c =
    let w = c.self.inside.walk in
    (take_more w.phase (point_of w) c.args.byte c.step.new.self.phase (point_of c.step.new.self) c.self.invariant (ap (λ (v : SectionView). v.stage) c.self.view_is ∙ c.requires) c.in-More.ensures).0

pub returns-in-More : goal.returns-in-More
returns-in-More c =
    let w = c.self.inside.walk in
    subst (λ (v : SectionView). Takes judged.More v c.args.byte (view_at c.step.new.self.phase (point_of c.step.new.self))) c.self.view_is
    (take_more w.phase (point_of w) c.args.byte c.step.new.self.phase (point_of c.step.new.self) c.self.invariant (ap (λ (v : SectionView). v.stage) c.self.view_is ∙ c.requires) c.in-More.ensures).1

pub returns-in-Whole : goal.returns-in-Whole
returns-in-Whole c =
    let w = c.self.inside.walk in
    subst (λ (v : SectionView). Takes judged.Whole v c.args.byte (view_at c.step.new.self.phase (point_of c.step.new.self))) c.self.view_is
    (take_whole w.phase (point_of w) c.args.byte c.step.new.self.phase (point_of c.step.new.self) c.self.invariant (ap (λ (v : SectionView). v.stage) c.self.view_is ∙ c.requires) c.in-Whole.ensures).1

pub returns-in-Limit : goal.returns-in-Limit
returns-in-Limit c =
    let w = c.self.inside.walk in
    subst (λ (v : SectionView). Takes judged.Limit v c.args.byte (view_at phases.Refused (point_of c.step.new.self))) c.self.view_is
    (take_limit w.phase (point_of w) c.args.byte c.step.new.self.phase (point_of c.step.new.self) c.self.invariant (ap (λ (v : SectionView). v.stage) c.self.view_is ∙ c.requires) c.in-Limit.ensures).1

pub returns-in-Dead : goal.returns-in-Dead
returns-in-Dead c =
    let w = c.self.inside.walk in
    subst (λ (v : SectionView). Takes judged.Dead v c.args.byte (view_at phases.Refused (point_of c.step.new.self))) c.self.view_is
    (take_dead w.phase (point_of w) c.args.byte c.step.new.self.phase (point_of c.step.new.self) c.self.invariant (ap (λ (v : SectionView). v.stage) c.self.view_is ∙ c.requires) c.in-Dead.ensures).1
