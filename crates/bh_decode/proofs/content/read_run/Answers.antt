use Rattle.std.proofs.Common.{ℕ, List, [], take, drop, subst, take-append-drop}
use Rattle.std.proofs.lemmas.Result.{err_from_is_err_and}
use Rattle.bh_spec.specs.declared.Part.TheVariants as parts
use Rattle.bh_spec.specs.Pieces.{SomeOf, Ends}
use Rattle.bh_decode.specs.Grammar.{ContentOf, RunOf}
use Rattle.bh_decode.specs.Stops.{IsCutThing}
use Rattle.bh_decode.proofs.Runs.{run_ends, length_stops, content_stops}
use Rattle.bh_decode.proofs.content.read_run.Goals as goal

pub returns-in_err-number-clause-stops : goal.returns-in_err-number-clause-stops
returns-in_err-number-clause-stops c =
    let p = err_from_is_err_and c.from_residual.result c.from_residual.ensures.1 in
    rw (p.1, p.2) (length_stops c.args.length_part c.args.bytes.now c.in_err-number.field-0.0 c.in_err-number.ensures.stops)

pub returns-in-Some-clause-whole : goal.returns-in-Some-clause-whole
returns-in-Some-clause-whole c =
    run_ends c.args.length_part c.args.bytes.now c.in_ok-number.number.taken c.in_ok-number.number.value c.in-Some.content.now c.in_ok-number.ensures.whole
    (subst (λ (x : List ℕ). Ends (ContentOf c.in_ok-number.number.value c.in-Some.content.now) [] x c.in_ok-number.number.value) c.behind.ensures c.in-Some.ensures.whole)

pub returns-in-None-clause-stops : goal.returns-in-None-clause-stops
returns-in-None-clause-stops c =
    subst (λ (x : List ℕ). IsCutThing (SomeOf (RunOf c.args.length_part)) x parts.Content) (take-append-drop c.in_ok-number.number.taken c.args.bytes.now)
    (content_stops c.args.length_part (take c.in_ok-number.number.taken c.args.bytes.now) (drop c.in_ok-number.number.taken c.args.bytes.now) c.in_ok-number.number.value
    c.in_ok-number.ensures.whole.whole
    (subst (λ (x : List ℕ). IsCutThing (SomeOf (ContentOf c.in_ok-number.number.value)) x parts.Content) c.behind.ensures c.in-None.ensures.cut))
