use Rattle.std.proofs.Common.{arith}
use Rattle.bh_encode.proofs.Putting.{line_at}
use Rattle.bh_encode.proofs.Gathering.{gathers_on}
use Rattle.bh_encode.proofs.parts.put_section.Goals as goal

pub loop-i-preserved : goal.loop-i-preserved
loop-i-preserved g c = gathers_on _ _ _ _ _ (line_at c.args.fields.now.lines c.loop-i.i _ _ (search arith) c.line.ensures.line) c.loop-i.invariant c.put_line.ensures
