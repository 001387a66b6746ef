use Rattle.std.proofs.Common.{ℕ, List, Option, sym, subst, arith}
use Rattle.std.proofs.lemmas.Result.{err_from_is_err_and}
use Rattle.bh_spec.specs.Bounds.{IsWithin, no_bounds}
use Rattle.bh_spec.specs.Pieces.{IsText}
use Rattle.bh_decode.specs.Grammar.{IsAfterFraming, FramedOf}
use Rattle.bh_decode.specs.Stops.{Stops, AtStop}
use Rattle.bh_decode.proofs.Messages.{framing_stop, framed_fault, message_whole}
use Rattle.bh_decode.proofs.whole.read_whole.Goals as goal

pub returns-in_err-framing-clause-stops : goal.returns-in_err-framing-clause-stops
returns-in_err-framing-clause-stops c =
    let p = err_from_is_err_and c.from_residual.result c.from_residual.ensures.1 in
    let one : IsWithin c.args.limits.now.part 1 = subst (λ (o : Option ℕ). IsWithin o 1) (sym c.part-part.ensures.value) (omega (arith, c.part-part.ensures.low)) in
    rw (p.1, p.2) (framing_stop c.args.limits.now c.args.bytes.now c.in_err-framing.field-0.0 one c.in_err-framing.ensures.stops)

pub returns-in-Ok-clause-whole : goal.returns-in-Ok-clause-whole
returns-in-Ok-clause-whole c =
    let f = c.in_ok-framing.framing in
    let r = c.in-Ok.read in
    message_whole c.args.limits.now f.kind f.form r.message r.omitted r.padding c.args.bytes.now f.taken c.in_ok-framing.ensures.whole
    (subst (IsText (FramedOf c.args.limits.now f.kind f.form r.message r.omitted r.padding)) c.behind-rest.ensures c.in-Ok.ensures.whole)

pub returns-in-Err-clause-stops : goal.returns-in-Err-clause-stops
returns-in-Err-clause-stops c =
    let f = c.in_ok-framing.framing in
    rw (c.behind.ensures)
    (framed_fault c.args.limits.now f.kind f.form c.args.bytes.now f.taken c.in-Err.fault c.in_ok-framing.ensures.whole
    (subst (λ (x : List ℕ). AtStop (Stops (IsAfterFraming c.args.limits.now (f.kind, f.form)) (IsAfterFraming no_bounds (f.kind, f.form)) x) c.in-Err.fault) c.behind-rest.ensures c.in-Err.ensures.stops))
