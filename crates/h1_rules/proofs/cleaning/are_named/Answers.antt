use Rattle.std.proofs.Common.{rules}
use Rattle.h1_rules.proofs.Adding.{named_from}
use Rattle.h1_rules.proofs.cleaning.are_named.Goals as goal

pub loop-i-preserved : goal.loop-i-preserved
loop-i-preserved c h =
    c.loop-i.invariant (named_from c.args.fields.now.lines c.loop-i.i (record { name = c.line.result.0.now; value = c.line.result.1.now }) c.line.ensures.line (search rules) h)
