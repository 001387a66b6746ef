use Rattle.std.proofs.Common.{◌≡◌, Some, None, sym, subst, ◌∙◌}
use Rattle.bh_spec.specs.declared.Refusal.TheVariants.{Ended}
use Rattle.bh_push.specs.Hands.{Held}
use Rattle.bh_push.specs.Pushes.{Fails}
use Rattle.bh_push.proofs.Ending.{fails_at, no_end}
use Rattle.bh_push.proofs.Handing.{view}
use Rattle.bh_push.proofs.Inputs.{not_some}
use Rattle.bh_push.proofs.decoder.Decoder.finish.Goals as goal

pub returns-clause-fails : goal.returns-clause-fails
returns-clause-fails c =
    let d = c.self.inside in
    let none : d.refusal ≡ None = not_some d.refusal c.in_default.not-Some in
    let r = Ended d.taken c.next_part.result in
    subst (λ (v : Held). Fails v.decoder.refusal v.decoder r (view d.course d.taken (Some r))) c.self.view_is
    (fails_at d.course d.taken d.refusal c.next_part.result none (c.self.invariant.opened none) (sym c.ending.ensures ∙ no_end c.ending.result c.in_default-ending.not-Some) c.self.invariant.counted c.next_part.ensures)
