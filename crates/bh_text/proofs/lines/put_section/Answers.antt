use Rattle.std.proofs.Common.{arith}
use Rattle.bh_base.proofs.Putting.{puts_on, puts_as}
use Rattle.bh_text.proofs.Sections.{line_more}
use Rattle.bh_text.proofs.lines.put_section.Goals as goal

pub loop-i-preserved : goal.loop-i-preserved
loop-i-preserved g c =
    puts_as (line_more c.args.word.now c.args.fields.now.lines c.loop-i.i _ _ (search arith) c.line.ensures.line)
    (puts_on c.loop-i.invariant (puts_on c.put.ensures (puts_on c.put-in-loop-i.ensures (puts_on c.put-in-loop-i-2.ensures (puts_on c.put_value.ensures c.put-in-loop-i-3.ensures)))))
