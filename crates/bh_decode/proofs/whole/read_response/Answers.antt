use Rattle.std.proofs.Common.{ℕ, List, [], take, drop, map, subst, ◌∙◌}
use Rattle.std.proofs.lemmas.Result.{err_from_is_err_and}
use Rattle.bh_spec.specs.Bounds.{Bounds, no_bounds}
use Rattle.bh_model.specs.Values.{interim_of}
use Rattle.bh_spec.specs.Pieces.{IsText, Ends}
use Rattle.bh_decode.specs.Contexts.{Context}
use Rattle.bh_decode.specs.Grammar.{IsResponseText, IsAfterStart, AfterOf}
use Rattle.bh_decode.specs.Responses.{OpeningOf}
use Rattle.bh_decode.specs.Stops.{Stops, AtStop}
use Rattle.bh_decode.proofs.Tails.{fault_near}
use Rattle.bh_decode.proofs.Messages.{response_fault, response_whole}
use Rattle.bh_decode.proofs.whole.read_response.Goals as goal

pub returns-in_err-start-clause-stops : goal.returns-in_err-start-clause-stops
returns-in_err-start-clause-stops c =
    let p = err_from_is_err_and c.from_residual.result c.from_residual.ensures.1 in
    rw (p.1, p.2)
    (subst (λ (L : Bounds). AtStop (Stops (IsResponseText L c.args.form 0) (IsResponseText no_bounds c.args.form 0) c.args.bytes.now) c.in_err-start.field-0.0) c.requires.limits c.in_err-start.ensures.stops)

pub behind-requires-in-Err : goal.behind-requires-in-Err
behind-requires-in-Err c =
    fault_near (IsAfterStart c.read_opening.new.reader.limits c.args.form) (IsAfterStart no_bounds c.args.form) c.args.bytes.now c.in_ok-start.start.taken c.in-Err.fault c.in_ok-start.ensures.whole.within c.requires.short
    (subst (λ (x : List ℕ). AtStop (Stops (IsAfterStart c.read_opening.new.reader.limits c.args.form) (IsAfterStart no_bounds c.args.form) x) c.in-Err.fault) c.behind.ensures c.in-Err.ensures.stops)

pub returns-in-Ok-response-clause-whole : goal.returns-in-Ok-response-clause-whole
returns-in-Ok-response-clause-whole c =
    let p = c.in-Ok.field-0 in
    let limits = c.in_ok-start.ensures.limits ∙ c.requires.limits in
    response_whole c.args.limits.now c.args.form (map interim_of c.in_ok-start.start.interims) c.in_ok-start.start.status p.fields.lines p.tail.content p.tail.trailers.lines c.in-Ok-response.message p.tail.omitted p.tail.padding
    c.args.bytes.now c.in_ok-start.start.taken c.in-Ok-response.ensures.ok
    (subst (λ (L : Bounds). Ends (OpeningOf L c.args.form (map interim_of c.in_ok-start.start.interims) c.in_ok-start.start.status) [] c.args.bytes.now c.in_ok-start.start.taken) c.requires.limits c.in_ok-start.ensures.whole)
    (subst (λ (L : Bounds). IsText (AfterOf L c.args.form p.fields.lines p.tail.content p.tail.trailers.lines p.tail.omitted p.tail.padding) (drop c.in_ok-start.start.taken c.args.bytes.now)) limits
    (subst (IsText (AfterOf c.read_opening.new.reader.limits c.args.form p.fields.lines p.tail.content p.tail.trailers.lines p.tail.omitted p.tail.padding)) c.behind.ensures c.in-Ok.ensures.whole))

pub returns-in-Err-clause-stops : goal.returns-in-Err-clause-stops
returns-in-Err-clause-stops c =
    let limits = c.in_ok-start.ensures.limits ∙ c.requires.limits in
    rw (c.behind-in-Err.ensures)
    (response_fault c.args.limits.now c.args.form c.args.bytes.now c.in_ok-start.start.taken c.in-Err.fault c.in_ok-start.ensures.whole.within
    (subst (λ (L : Bounds). Context (IsResponseText L c.args.form 0) (IsAfterStart L c.args.form) (take c.in_ok-start.start.taken c.args.bytes.now) 0) c.requires.limits c.in_ok-start.ensures.behind)
    c.in_ok-start.ensures.anyway
    (subst (λ (L : Bounds). AtStop (Stops (IsAfterStart L c.args.form) (IsAfterStart no_bounds c.args.form) (drop c.in_ok-start.start.taken c.args.bytes.now)) c.in-Err.fault) limits
    (subst (λ (x : List ℕ). AtStop (Stops (IsAfterStart c.read_opening.new.reader.limits c.args.form) (IsAfterStart no_bounds c.args.form) x) c.in-Err.fault) c.behind.ensures c.in-Err.ensures.stops)))
