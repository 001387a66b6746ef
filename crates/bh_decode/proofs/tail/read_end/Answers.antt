use Rattle.std.proofs.Common.{ℕ, List, replicate, subst, ◌∙◌}
use Rattle.std.proofs.lemmas.Result.{err_from_is_err_and}
use Rattle.bh_spec.specs.declared.Part.TheVariants as parts
use Rattle.bh_spec.specs.Texts.{IsRun}
use Rattle.bh_spec.specs.Pieces.{IsText}
use Rattle.bh_decode.specs.Grammar.{IsPaddingText}
use Rattle.bh_decode.specs.Stops.{Stops}
use Rattle.bh_decode.proofs.Tails.{trailers_stop, padding_stop, end_whole}
use Rattle.bh_decode.proofs.tail.read_end.Goals as goal

pub returns-in_err-taken-clause-stops : goal.returns-in_err-taken-clause-stops
returns-in_err-taken-clause-stops c =
    let p = err_from_is_err_and c.from_residual.result c.from_residual.ensures.1 in
    rw (p.1, p.2) (trailers_stop c.args.reader.now.limits c.args.form c.args.bytes.now c.in_err-taken.field-0.0 c.in_err-taken.ensures.stops)

pub returns-in_ok-copy-in-Ok-clause-whole : goal.returns-in_ok-copy-in-Ok-clause-whole
returns-in_ok-copy-in-Ok-clause-whole c =
    end_whole c.args.reader.now.limits c.args.form c.read_section.new.reader.lines c.in_ok-copy-in-Ok.field-0.lines c.in-Ok.padding c.args.bytes.now c.in_ok-taken.taken
    (c.in_ok-copy-in-Ok.ensures.lines ∙ c.fields.ensures.lines) c.in_ok-taken.ensures.whole
    (subst (IsText (IsRun parts.Padding (replicate c.in-Ok.padding 0))) c.behind.ensures c.in-Ok.ensures.whole)

pub returns-in_ok-copy-in-Ok-clause-ended : goal.returns-in_ok-copy-in-Ok-clause-ended
returns-in_ok-copy-in-Ok-clause-ended c = c.in_ok-copy-in-Ok.ensures.making ∙ c.fields.ensures.whole c.in_ok-taken.ensures.stage

pub returns-in-Err-clause-stops : goal.returns-in-Err-clause-stops
returns-in-Err-clause-stops c =
    rw (c.behind-in-Err.ensures)
    (padding_stop c.args.reader.now.limits c.args.form c.read_section.new.reader.lines c.args.bytes.now c.in_ok-taken.taken c.in-Err.stop c.in_ok-taken.ensures.whole
    (subst (λ (x : List ℕ). Stops IsPaddingText IsPaddingText x c.in-Err.stop) c.behind.ensures c.in-Err.ensures.stops))
