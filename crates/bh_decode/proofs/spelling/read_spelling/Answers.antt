use Rattle.std.proofs.Common.{Err}
use Rattle.bh_decode.proofs.Inputs.{only}
use Rattle.bh_decode.proofs.spelling.read_spelling.Goals as goal

pub returns-then-bytes-most-clause-only : goal.returns-then-bytes-most-clause-only
returns-then-bytes-most-clause-only c = λ answer a. only c.args.limits.now c.args.bytes.now answer (Err c.read_longer.result) c.read_longer.ensures a

pub returns-clause-only : goal.returns-clause-only
returns-clause-only c = λ answer a. only c.args.limits.now c.args.bytes.now answer c.read_within.result c.read_within.ensures a
