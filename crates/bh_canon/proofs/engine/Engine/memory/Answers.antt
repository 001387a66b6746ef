use Rattle.std.proofs.Common.{ap, arith, length, subst, ◌∙◌}
use Rattle.bh_spec.specs.Bounds.{Bounds}
use Rattle.bh_model.specs.Ranges.{AreLimits}
use Rattle.bh_model.specs.Values.{control_lent}
use Rattle.bh_control.specs.Stored.{AreWithin}
use Rattle.bh_fields.specs.Readers.{AreStored}
use Rattle.bh_push.specs.Hands.{Held}
use Rattle.bh_canon.proofs.Holding.{control_few, fields_few, lines_count, none_held}
use Rattle.bh_canon.proofs.engine.Engine.memory.Goals as goal

pub returns-clause-bytes : goal.returns-clause-bytes
returns-clause-bytes c =
    let L : Bounds = c.args.self.now in
    let same = ap (λ (h : Held). h.decoder.limits) c.decoder-shown.ensures ∙ c.self.view_is in
    let limits : AreLimits L = subst AreLimits c.self.view_is c.self.invariant.limits in
    let control = control_few L (control_lent c.strings.result) limits (subst (λ (K : Bounds). AreWithin K.part (control_lent c.strings.result)) same c.strings.ensures) in
    let fields = fields_few L c.fields.result.now limits (subst (λ (K : Bounds). AreStored K c.fields.result.now) same c.fields.ensures.stored) in
    let none = none_held c.left_out.result.now c.left_out.ensures.lines c.left_out.ensures.making in
    let none-2 = none_held c.left_out-2.result.now c.left_out-2.ensures.lines c.left_out-2.ensures.making in
    omega (arith, control, fields, c.chunk.ensures, c.waiting.ensures, c.self.invariant.buffer.1, c.as_slice.ensures, none, none-2)

pub returns-clause-numbers : goal.returns-clause-numbers
returns-clause-numbers c =
    let L : Bounds = c.args.self.now in
    let same = ap (λ (h : Held). h.decoder.limits) c.decoder-shown.ensures ∙ c.self.view_is in
    let limits : AreLimits L = subst AreLimits c.self.view_is c.self.invariant.limits in
    let fields = lines_count L c.fields.result.now limits (subst (λ (K : Bounds). AreStored K c.fields.result.now) same c.fields.ensures.stored) in
    omega (arith, fields, ap length c.left_out.ensures.lines, ap length c.left_out-2.ensures.lines)
