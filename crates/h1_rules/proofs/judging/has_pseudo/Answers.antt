use Rattle.std.proofs.Common.{sym, ◌∙◌}
use Rattle.h1_spec.specs.Http1Text.{is_pseudo}
use Rattle.h1_rules.proofs.Rules.{any_here, any_later}
use Rattle.h1_rules.proofs.judging.has_pseudo.Goals as goal

pub returns-then-is_pseudo : goal.returns-then-is_pseudo
returns-then-is_pseudo c =
    sym (c.loop-i.invariant
    ∙ any_here is_pseudo c.args.fields.now.lines c.loop-i.i (record { name = c.line.result.0.now; value = c.line.result.1.now }) c.line.ensures.line
    (sym c.is_pseudo.ensures ∙ c.if-is_pseudo.true))

pub loop-i-preserved : goal.loop-i-preserved
loop-i-preserved c =
    c.loop-i.invariant
    ∙ any_later is_pseudo c.args.fields.now.lines c.loop-i.i (record { name = c.line.result.0.now; value = c.line.result.1.now }) c.line.ensures.line
    (sym c.is_pseudo.ensures ∙ c.if-is_pseudo.false)
