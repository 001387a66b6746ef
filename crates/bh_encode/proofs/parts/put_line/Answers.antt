use Rattle.std.proofs.Common.{refl}
use Rattle.bh_base.proofs.Putting.{puts_on, puts_as}
use Rattle.bh_encode.proofs.Gathering.{put_whole}
use Rattle.bh_encode.proofs.parts.put_line.Goals as goal

pub returns : goal.returns
returns g c =
    put_whole (puts_as (c.if-add_line.ensures.same refl) c.put_in.ensures.put) c.put_in.ensures.empty (c.if-add_line-2.ensures.same refl) (puts_on c.put_string.ensures c.put_string-2.ensures)
