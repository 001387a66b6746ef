use Rattle.std.proofs.Common.{arith}
use Rattle.std.proofs.lemmas.Result.{err_from_is_err_and}
use Rattle.bh_spec.specs.declared.Part.TheVariants as parts
use Rattle.bh_decode.proofs.Runs.{run_long, known_stops, known_ends}
use Rattle.bh_decode.proofs.body.read_known.Goals as goal

pub returns-in_err-run-clause-stops : goal.returns-in_err-run-clause-stops
returns-in_err-run-clause-stops c =
    let p = err_from_is_err_and c.from_residual.result c.from_residual.ensures.1 in
    rw (p.1, p.2) (known_stops c.args.bytes.now c.in_err-run.field-0.0 c.in_err-run.ensures.stops)

pub from_slice-requires : goal.from_slice-requires
from_slice-requires c =
    omega (arith, run_long parts.ContentLength c.in_ok-run.run'.content.now c.args.bytes.now c.in_ok-run.run'.taken c.in_ok-run.ensures.whole, c.in_ok-run.ensures.whole.within, c.requires)

pub returns-clause-whole : goal.returns-clause-whole
returns-clause-whole c = known_ends c.in_ok-run.run'.content.now c.in_ok-content.content c.args.bytes.now c.in_ok-run.run'.taken c.in_ok-content.ensures c.in_ok-run.ensures.whole
