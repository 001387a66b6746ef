use Rattle.std.proofs.Common.{arith}
use Rattle.bh_text.proofs.Decimals.{few}
use Rattle.bh_text.proofs.writing.put_count.Goals as goal

pub put_number-requires : goal.put_number-requires
put_number-requires c = let l = few c.args.n (omega arith) in omega (arith, l)
