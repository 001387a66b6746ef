use Rattle.bh_base.proofs.Putting.{puts_on, puts_as, text_more}
use Rattle.h1_spec.specs.Http1Text.{field_line}
use Rattle.h1_head.proofs.writing.put_fields.Goals as goal

pub loop-i-preserved : goal.loop-i-preserved
loop-i-preserved g c =
    puts_as (text_more field_line c.args.fields.now.lines c.loop-i.i _ c.line.ensures.line) (puts_on c.loop-i.invariant c.put_line.ensures)
