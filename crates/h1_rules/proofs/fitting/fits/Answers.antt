use Rattle.std.proofs.Common.{◌-◌, ◌+◌, sym, ◌∙◌, arith}
use Rattle.std.proofs.lemmas.Bool.{false≢true}
use Rattle.h1_rules.proofs.Within.{fit_start, unfit, over, fits_on, none_left}
use Rattle.h1_rules.proofs.fitting.fits.Goals as goal

pub loop-i-init : goal.loop-i-init
loop-i-init c = fit_start c.args.limits.now c.section-room.result c.args.fields.now.lines c.section-room.ensures.value

pub returns-then-not-parts_fit : goal.returns-then-not-parts_fit
returns-then-not-parts_fit c = (
  λ t. absurd (false≢true t),
  λ h. absurd (unfit c.args.limits.now.part c.loop-i.room c.args.fields.now.lines c.loop-i.i (record { name = c.line.result.0.now; value = c.line.result.1.now })
      c.line.ensures.line (λ both. false≢true (sym c.if-not-parts_fit.true ∙ c.parts_fit.ensures.1 both)) (c.loop-i.invariant.0 h)),
)

pub returns-then-used-room : goal.returns-then-used-room
returns-then-used-room c = (
  λ t. absurd (false≢true t),
  λ h. absurd (over c.args.limits.now.part c.loop-i.room c.args.fields.now.lines c.loop-i.i (record { name = c.line.result.0.now; value = c.line.result.1.now })
      c.line.ensures.line (omega (arith, c.if-used-room.true, c.string_bytes.ensures, c.string_bytes-in-loop-i.ensures)) (c.loop-i.invariant.0 h)),
)

pub loop-i-preserved : goal.loop-i-preserved
loop-i-preserved c =
    let room = c.loop-i.room - (c.string_bytes.result + c.string_bytes-in-loop-i.result) in
    let on = fits_on c.args.limits.now.part c.loop-i.room room c.args.fields.now.lines c.loop-i.i
    (record { name = c.line.result.0.now; value = c.line.result.1.now }) c.line.ensures.line (c.parts_fit.ensures.0 c.if-not-parts_fit.false)
    (omega (arith, c.if-used-room.false, c.string_bytes.ensures, c.string_bytes-in-loop-i.ensures)) in
    (λ h. on.0 (c.loop-i.invariant.0 h), λ h. c.loop-i.invariant.1 (on.1 h))
