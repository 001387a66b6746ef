use Rattle.std.proofs.Common.{ap, subst, ◌∙◌}
use Rattle.bh_spec.specs.Bounds.{Bounds}
use Rattle.bh_fields.specs.Readers.{AreStored}
use Rattle.bh_push.specs.Hands.{Held}
use Rattle.bh_push.proofs.decoder.Decoder.fields.Goals as goal

pub returns-clause-stored : goal.returns-clause-stored
returns-clause-stored c =
    subst (λ (L : Bounds). AreStored L c.fields.result.now) (c.self.invariant.course.section ∙ ap (λ (h : Held). h.decoder.limits) c.self.view_is)
    c.fields.ensures.stored
