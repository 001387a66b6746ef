use Rattle.bh_model.specs.Values.{control_lent}
use Rattle.bh_base.proofs.Putting.{puts_on, puts_as}
use Rattle.bh_text.proofs.Sections.{control_text}
use Rattle.bh_text.proofs.lines.put_control.Goals as goal

pub returns : goal.returns
returns g c = puts_as (control_text (control_lent c.args.control))
    (puts_on c.put.ensures (puts_on c.put-2.ensures (puts_on c.put-3.ensures (puts_on c.put-4.ensures (puts_on c.put-5.ensures (puts_on c.put-6.ensures (puts_on c.put-7.ensures (puts_on c.put-8.ensures c.put-9.ensures))))))))
