use Rattle.std.proofs.Common.{sym, ◌∙◌}
use Rattle.h1_rules.proofs.Rules.{bad_here, bad_later}
use Rattle.h1_rules.proofs.judging.has_bad_value.Goals as goal

pub returns-then-not-is_text : goal.returns-then-not-is_text
returns-then-not-is_text c =
    sym (c.loop-i.invariant
    ∙ bad_here c.args.fields.now.lines c.loop-i.i (record { name = c.line.result.0.now; value = c.line.result.1.now }) c.line.ensures.line
    (sym c.is_text.ensures ∙ c.if-not-is_text.true))

pub loop-i-preserved : goal.loop-i-preserved
loop-i-preserved c =
    c.loop-i.invariant
    ∙ bad_later c.args.fields.now.lines c.loop-i.i (record { name = c.line.result.0.now; value = c.line.result.1.now }) c.line.ensures.line
    (sym c.is_text.ensures ∙ c.if-not-is_text.false)
