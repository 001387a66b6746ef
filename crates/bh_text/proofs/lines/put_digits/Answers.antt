use Rattle.bh_base.proofs.Putting.{puts_as}
use Rattle.bh_text.proofs.Digits.{digits_in}
use Rattle.bh_text.proofs.lines.put_digits.Goals as goal

pub returns-in-Ok : goal.returns-in-Ok
returns-in-Ok g c = puts_as (digits_in c.args.bytes.now c.encode_to_slice.new.output _ c.in-Ok.ensures.written) c.put.ensures
