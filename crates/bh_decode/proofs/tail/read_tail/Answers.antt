use Rattle.std.proofs.Common.{◌≤◌, ℕ, List, length, drop, sym, ap, subst, ◌∙◌}
use Rattle.std.proofs.lemmas.Result.{err_from_is_err_and}
use Rattle.bh_spec.specs.Bounds.{no_bounds}
use Rattle.bh_model.specs.Lines.{FieldsView}
use Rattle.bh_spec.specs.Pieces.{IsText}
use Rattle.bh_decode.specs.Grammar.{IsEndText, EndOf}
use Rattle.bh_decode.specs.Stops.{Stops, AtStop}
use Rattle.bh_decode.proofs.Chunks.{is_none, is_some}
use Rattle.bh_decode.proofs.Tails.{body_fault, trailers_omitted, tail_whole, end_fault}
use Rattle.bh_decode.proofs.tail.read_tail.Goals as goal

pub returns-in_err-body-clause-stops : goal.returns-in_err-body-clause-stops
returns-in_err-body-clause-stops c =
    let p = err_from_is_err_and c.from_residual-in_err-body.result c.from_residual-in_err-body.ensures.1 in
    rw (p.1, p.2) (body_fault c.args.reader.now.limits c.args.form c.args.bytes.now c.in_err-body.field-0.0 (is_some c.args.bytes.now c.if-is_empty.ensures) c.in_err-body.ensures.stops)

pub returns-then-is_empty-2-clause-whole : goal.returns-then-is_empty-2-clause-whole
returns-then-is_empty-2-clause-whole c =
    trailers_omitted c.args.reader.now.limits c.args.form c.in_ok-body.body.content c.args.bytes.now c.in_ok-with_room-2.field-0.lines c.in_ok-body.body.taken c.in_ok-body.ensures.whole
    (sym c.behind-rest.ensures ∙ is_none c.behind-rest.result.now c.if-is_empty-2.ensures) (ap (λ (f : FieldsView). f.lines) c.in_ok-with_room-2.ensures)

pub returns-in-Ok-clause-whole : goal.returns-in-Ok-clause-whole
returns-in-Ok-clause-whole c =
    tail_whole c.args.reader.now.limits c.args.form c.in_ok-body.body.content c.args.bytes.now c.in-Ok.end.trailers.lines c.in-Ok.end.padding c.in_ok-body.body.taken c.in_ok-body.ensures.whole
    (subst (IsText (EndOf c.args.reader.now.limits c.args.form c.in-Ok.end.trailers.lines c.in-Ok.end.padding)) c.behind-rest.ensures c.in-Ok.ensures.whole)

pub returns-in-Err-clause-stops : goal.returns-in-Err-clause-stops
returns-in-Err-clause-stops c =
    let some : 1 ≤ length (drop c.in_ok-body.body.taken c.args.bytes.now) = subst (λ (x : List ℕ). 1 ≤ length x) c.behind-rest.ensures (is_some c.behind-rest.result.now c.if-is_empty-2.ensures) in
    rw (c.behind.ensures)
    (end_fault c.args.reader.now.limits c.args.form c.in_ok-body.body.content c.args.bytes.now c.in_ok-body.body.taken c.in-Err.fault c.in_ok-body.ensures.whole some
    (subst (λ (x : List ℕ). AtStop (Stops (IsEndText c.args.reader.now.limits c.args.form) (IsEndText no_bounds c.args.form) x) c.in-Err.fault) c.behind-rest.ensures c.in-Err.ensures.stops))
