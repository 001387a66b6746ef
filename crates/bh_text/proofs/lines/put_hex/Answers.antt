use Rattle.std.proofs.Common.{arith}
use Rattle.bh_text.proofs.Digits.{digits_start, digits_on, digits_end}
use Rattle.bh_text.proofs.lines.put_hex.Goals as goal

pub loop-rest-init : goal.loop-rest-init
loop-rest-init g c = digits_start _ _ _

pub loop-rest-preserved : goal.loop-rest-preserved
loop-rest-preserved g c = digits_on c.min.result c.split_at.result.0.now c.split_at.result.1.now c.split_at.ensures.front c.split_at.ensures.back c.put_digits.ensures c.loop-rest.invariant

pub returns : goal.returns
returns g c = digits_end (search arith) c.loop-rest.invariant
