use Rattle.std.proofs.lemmas.Result.{err_from_is_err_and}
use Rattle.bh_decode.proofs.Framings.{framing_stops}
use Rattle.bh_decode.proofs.framing.read_framing.Goals as goal

pub returns-in_err-number-clause-stops : goal.returns-in_err-number-clause-stops
returns-in_err-number-clause-stops c =
    let p = err_from_is_err_and c.from_residual.result c.from_residual.ensures.1 in
    rw (p.1, p.2) (framing_stops c.args.bytes.now c.in_err-number.field-0.0 c.in_err-number.ensures.stops)
