use Rattle.std.proofs.Common.{ℕ, List, drop, subst}
use Rattle.std.proofs.lemmas.Result.{err_from_is_err_and}
use Rattle.bh_spec.specs.Bounds.{Bounds, no_bounds}
use Rattle.bh_model.specs.Values.{control_of}
use Rattle.bh_spec.specs.Pieces.{IsText}
use Rattle.bh_decode.specs.Grammar.{IsAfterStart, AfterOf}
use Rattle.bh_decode.specs.Stops.{Stops, AtStop}
use Rattle.bh_decode.proofs.Messages.{control_fault, request_fault, request_whole}
use Rattle.bh_decode.proofs.whole.read_request.Goals as goal

pub returns-in_err-start-clause-stops : goal.returns-in_err-start-clause-stops
returns-in_err-start-clause-stops c =
    let p = err_from_is_err_and c.from_residual.result c.from_residual.ensures.1 in
    rw (p.1, p.2) (control_fault c.args.limits.now c.args.form c.args.bytes.now c.in_err-start.field-0.0 c.in_err-start.ensures.stops)

pub returns-in-Ok-request-clause-whole : goal.returns-in-Ok-request-clause-whole
returns-in-Ok-request-clause-whole c =
    let p = c.in-Ok.field-0 in
    request_whole c.args.limits.now c.args.form (control_of c.in_ok-start.start.control) p.fields.lines p.tail.content p.tail.trailers.lines c.in-Ok-request.message p.tail.omitted p.tail.padding
    c.args.bytes.now c.in_ok-start.start.taken c.in-Ok-request.ensures.ok c.in_ok-start.ensures.whole
    (subst (λ (L : Bounds). IsText (AfterOf L c.args.form p.fields.lines p.tail.content p.tail.trailers.lines p.tail.omitted p.tail.padding) (drop c.in_ok-start.start.taken c.args.bytes.now)) c.requires.limits
    (subst (IsText (AfterOf c.args.reader.now.limits c.args.form p.fields.lines p.tail.content p.tail.trailers.lines p.tail.omitted p.tail.padding)) c.behind.ensures c.in-Ok.ensures.whole))

pub returns-in-Err-clause-stops : goal.returns-in-Err-clause-stops
returns-in-Err-clause-stops c =
    rw (c.behind-in-Err.ensures)
    (request_fault c.args.limits.now c.args.form (control_of c.in_ok-start.start.control) c.args.bytes.now c.in_ok-start.start.taken c.in-Err.fault c.in_ok-start.ensures.whole
    (subst (λ (L : Bounds). AtStop (Stops (IsAfterStart L c.args.form) (IsAfterStart no_bounds c.args.form) (drop c.in_ok-start.start.taken c.args.bytes.now)) c.in-Err.fault) c.requires.limits
    (subst (λ (x : List ℕ). AtStop (Stops (IsAfterStart c.args.reader.now.limits c.args.form) (IsAfterStart no_bounds c.args.form) x) c.in-Err.fault) c.behind.ensures c.in-Err.ensures.stops)))
