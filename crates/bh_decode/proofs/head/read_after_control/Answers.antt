use Rattle.std.proofs.Common.{ℕ, List, drop, subst, ◌∙◌}
use Rattle.std.proofs.lemmas.Result.{err_from_is_err_and}
use Rattle.bh_spec.specs.Bounds.{Bounds, no_bounds}
use Rattle.bh_spec.specs.Pieces.{IsText}
use Rattle.bh_decode.specs.Grammar.{IsRestText, RestOf}
use Rattle.bh_decode.specs.Stops.{Stops, AtStop}
use Rattle.bh_decode.proofs.Heads.{headers_stop, rest_fault, parts_whole}
use Rattle.bh_decode.proofs.head.read_after_control.Goals as goal

pub returns-in_err-taken-clause-stops : goal.returns-in_err-taken-clause-stops
returns-in_err-taken-clause-stops c =
    let p = err_from_is_err_and c.from_residual.result c.from_residual.ensures.1 in
    rw (p.1, p.2) (headers_stop c.args.reader.now.limits c.args.form c.args.bytes.now c.in_err-taken.field-0.0 c.in_err-taken.ensures.stops)

pub returns-in-Ok-clause-whole : goal.returns-in-Ok-clause-whole
returns-in-Ok-clause-whole c =
    parts_whole c.args.reader.now.limits c.args.form c.read_section.new.reader.lines c.in_ok-fields.fields.lines
    c.in-Ok.tail.content c.in-Ok.tail.trailers.lines c.in-Ok.tail.omitted c.in-Ok.tail.padding c.args.bytes.now c.in_ok-taken.taken
    (c.in_ok-fields.ensures.lines ∙ c.fields.ensures.lines) c.in_ok-taken.ensures.whole
    (subst (λ (L : Bounds). IsText (RestOf L c.args.form c.in-Ok.tail.content c.in-Ok.tail.trailers.lines c.in-Ok.tail.omitted c.in-Ok.tail.padding) (drop c.in_ok-taken.taken c.args.bytes.now)) c.in_ok-taken.ensures.limits
    (subst (IsText (RestOf c.read_section.new.reader.limits c.args.form c.in-Ok.tail.content c.in-Ok.tail.trailers.lines c.in-Ok.tail.omitted c.in-Ok.tail.padding)) c.behind.ensures c.in-Ok.ensures.whole))

pub returns-in-Err-clause-stops : goal.returns-in-Err-clause-stops
returns-in-Err-clause-stops c =
    rw (c.behind-in-Err.ensures)
    (rest_fault c.args.reader.now.limits c.args.form c.read_section.new.reader.lines c.args.bytes.now c.in_ok-taken.taken c.in-Err.fault c.in_ok-taken.ensures.whole
    (subst (λ (L : Bounds). AtStop (Stops (IsRestText L c.args.form) (IsRestText no_bounds c.args.form) (drop c.in_ok-taken.taken c.args.bytes.now)) c.in-Err.fault) c.in_ok-taken.ensures.limits
    (subst (λ (x : List ℕ). AtStop (Stops (IsRestText c.read_section.new.reader.limits c.args.form) (IsRestText no_bounds c.args.form) x) c.in-Err.fault) c.behind.ensures c.in-Err.ensures.stops)))
