use Rattle.std.proofs.Common.{ap, sym, subst, ◌∙◌}
use Rattle.std.proofs.lemmas.Bool.{false≢true}
use Rattle.bh_spec.specs.declared.Judged.TheVariants as judged
use Rattle.bh_control.specs.declared.progress.Phase.TheVariants.{Refused}
use Rattle.bh_control.specs.Control.{ControlState, Takes}
use Rattle.bh_control.specs.Sound.{state_at}
use Rattle.bh_control.proofs.Controls.{take_more, take_whole, take_limit, take_dead, refused_progress}
use Rattle.bh_control.proofs.control.ControlReader.take.Goals as goal

pub invariant_of-self : goal.invariant_of-self
invariant_of-self c =
    let r = c.self.inside in
    (take_whole r.limits r.progress c.step.new.self c.args.byte c.self.invariant (ap (λ (v : ControlState). v.stage) c.self.view_is ∙ c.requires)
    c.in-Taken.ensures.says c.in-Taken.ensures.keeps (c.is_whole.ensures.0 c.if-is_whole.true)).0

pub invariant_of-self-in-Taken : goal.invariant_of-self-in-Taken
invariant_of-self-in-Taken c =
    let r = c.self.inside in
    (take_more r.limits r.progress c.step.new.self c.args.byte c.self.invariant (ap (λ (v : ControlState). v.stage) c.self.view_is ∙ c.requires)
    c.in-Taken.ensures.says c.in-Taken.ensures.keeps (λ e. false≢true (sym c.if-is_whole.false ∙ c.is_whole.ensures.1 e))).0

pub returns-then-is_whole : goal.returns-then-is_whole
returns-then-is_whole c =
    let r = c.self.inside in
    subst (λ (v : ControlState). Takes judged.Whole v c.args.byte (state_at r.limits c.step.new.self.phase c.step.new.self)) c.self.view_is
    (take_whole r.limits r.progress c.step.new.self c.args.byte c.self.invariant (ap (λ (v : ControlState). v.stage) c.self.view_is ∙ c.requires)
    c.in-Taken.ensures.says c.in-Taken.ensures.keeps (c.is_whole.ensures.0 c.if-is_whole.true)).1

pub returns-else-is_whole : goal.returns-else-is_whole
returns-else-is_whole c =
    let r = c.self.inside in
    subst (λ (v : ControlState). Takes judged.More v c.args.byte (state_at r.limits c.step.new.self.phase c.step.new.self)) c.self.view_is
    (take_more r.limits r.progress c.step.new.self c.args.byte c.self.invariant (ap (λ (v : ControlState). v.stage) c.self.view_is ∙ c.requires)
    c.in-Taken.ensures.says c.in-Taken.ensures.keeps (λ e. false≢true (sym c.if-is_whole.false ∙ c.is_whole.ensures.1 e))).1

pub returns-in-Dead : goal.returns-in-Dead
returns-in-Dead c =
    let r = c.self.inside in
    subst (λ (v : ControlState). Takes judged.Dead v c.args.byte (state_at r.limits Refused (refused_progress c.step.new.self))) c.self.view_is
    (take_dead r.limits r.progress c.step.new.self c.args.byte c.in-Dead.ensures.says)

pub returns-in-Limit : goal.returns-in-Limit
returns-in-Limit c =
    let r = c.self.inside in
    subst (λ (v : ControlState). Takes judged.Limit v c.args.byte (state_at r.limits Refused (refused_progress c.step.new.self))) c.self.view_is
    (take_limit r.limits r.progress c.step.new.self c.args.byte c.self.invariant c.in-Limit.ensures.says.0 c.in-Limit.ensures.says.1)
