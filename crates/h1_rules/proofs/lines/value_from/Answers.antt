use Rattle.std.proofs.Common.{sym, ◌∙◌}
use Rattle.h1_rules.proofs.Values.{value_here, value_later}
use Rattle.h1_rules.proofs.lines.value_from.Goals as goal

pub returns-then-eq-clause-found : goal.returns-then-eq-clause-found
returns-then-eq-clause-found c =
    c.loop-i.invariant
    ∙ value_here c.args.name.now c.args.fields.now.lines c.loop-i.i (record { name = c.line.result.0.now; value = c.line.result.1.now })
    c.line.ensures.line (sym c.eq.ensures ∙ c.if-eq.true)

pub loop-i-preserved : goal.loop-i-preserved
loop-i-preserved c =
    c.loop-i.invariant
    ∙ value_later c.args.name.now c.args.fields.now.lines c.loop-i.i (record { name = c.line.result.0.now; value = c.line.result.1.now })
    c.line.ensures.line (sym c.eq.ensures ∙ c.if-eq.false)
