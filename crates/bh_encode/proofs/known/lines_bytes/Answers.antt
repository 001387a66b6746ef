use Rattle.std.proofs.Common.{arith}
use Rattle.bh_encode.proofs.Adding.{bytes_more}
use Rattle.bh_encode.proofs.known.lines_bytes.Goals as goal

pub loop-i-preserved : goal.loop-i-preserved
loop-i-preserved c = omega (arith, c.loop-i.invariant, bytes_more c.args.fields.now.lines c.loop-i.i _ c.line.ensures.line, c.string_bytes.ensures, c.string_bytes-in-loop-i.ensures)
