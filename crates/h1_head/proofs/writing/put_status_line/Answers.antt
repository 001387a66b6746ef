use Rattle.bh_base.proofs.Putting.{puts_on}
use Rattle.h1_head.proofs.writing.put_status_line.Goals as goal

pub returns : goal.returns
returns g c = puts_on c.put.ensures (puts_on (rw c.digits_of.ensures at c.put-2.ensures) c.put-3.ensures)
