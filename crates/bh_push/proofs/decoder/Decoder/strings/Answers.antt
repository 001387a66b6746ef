use Rattle.std.proofs.Common.{ap, subst, ◌∙◌}
use Rattle.bh_spec.specs.Bounds.{Bounds}
use Rattle.bh_model.specs.Values.{control_lent}
use Rattle.bh_control.specs.Stored.{AreWithin}
use Rattle.bh_push.specs.Hands.{Held}
use Rattle.bh_push.proofs.decoder.Decoder.strings.Goals as goal

pub returns : goal.returns
returns c =
    subst (λ (L : Bounds). AreWithin L.part (control_lent c.view.result)) (c.self.invariant.course.control ∙ ap (λ (h : Held). h.decoder.limits) c.self.view_is)
    c.view.ensures.within
