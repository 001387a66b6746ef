use Rattle.std.proofs.Common.{◌+◌, ℕ, List, [], drop, arith, sym, subst, ◌∙◌}
use Rattle.std.proofs.lemmas.Result.{err_from_is_err_and}
use Rattle.bh_spec.specs.declared.Part.TheVariants as parts
use Rattle.bh_spec.specs.declared.Form.TheVariants as forms
use Rattle.bh_spec.specs.Pieces.{SomeOf, Ends}
use Rattle.bh_decode.specs.Grammar.{RunOf, BodyOf}
use Rattle.bh_decode.specs.Stops.{StopsThing}
use Rattle.bh_decode.proofs.Runs.{run_long}
use Rattle.bh_decode.proofs.Chunks.{Chunked, chunked_more, chunks_ended, chunks_stop, is_none, is_some}
use Rattle.bh_decode.proofs.body.read_chunks.Goals as goal

-- src/body.rt:34:35
pub returns-in_err-content-in-Ok-clause-stops : goal.returns-in_err-content-in-Ok-clause-stops
returns-in_err-content-in-Ok-clause-stops c =
    let p = err_from_is_err_and c.from_residual.result c.from_residual.ensures.1 in
    rw (p.1, p.2) tt

pub returns-then-is_empty-clause-whole : goal.returns-then-is_empty-clause-whole
returns-then-is_empty-clause-whole c =
    let run = subst (λ (x : List ℕ). Ends (RunOf parts.ChunkLength c.in-Ok.run'.content.now) [] x c.in-Ok.run'.taken) c.behind.ensures c.in-Ok.ensures.whole in
    subst (λ (x : List ℕ). Ends (BodyOf forms.Indeterminate x) [] c.args.bytes.now (c.loop-run.taken + c.in-Ok.run'.taken)) (sym (c.in_ok-content-in-Ok.ensures ∙ c.as_slice.ensures.value))
    (chunks_ended c.loop-run.content.items c.args.bytes.now c.in-Ok.run'.content.now c.loop-run.taken c.in-Ok.run'.taken c.loop-run.invariant run (is_none c.in-Ok.run'.content.now c.if-is_empty.ensures))

pub loop-run-smaller : goal.loop-run-smaller
loop-run-smaller c =
    let run = subst (λ (x : List ℕ). Ends (RunOf parts.ChunkLength c.in-Ok.run'.content.now) [] x c.in-Ok.run'.taken) c.behind.ensures c.in-Ok.ensures.whole in
    omega (
      arith,
      run_long parts.ChunkLength c.in-Ok.run'.content.now (drop c.loop-run.taken c.args.bytes.now) c.in-Ok.run'.taken run,
      (chunked_more c.loop-run.content.items c.args.bytes.now c.in-Ok.run'.content.now c.loop-run.taken c.in-Ok.run'.taken c.loop-run.invariant run (is_some c.in-Ok.run'.content.now c.if-is_empty.ensures)).within,
    )

pub loop-run-preserved : goal.loop-run-preserved
loop-run-preserved c =
    let run = subst (λ (x : List ℕ). Ends (RunOf parts.ChunkLength c.in-Ok.run'.content.now) [] x c.in-Ok.run'.taken) c.behind.ensures c.in-Ok.ensures.whole in
    subst (λ (x : List ℕ). Chunked x c.args.bytes.now (c.loop-run.taken + c.in-Ok.run'.taken)) (sym c.in_ok-extend_from_slice-in-Ok.ensures.items)
    (chunked_more c.loop-run.content.items c.args.bytes.now c.in-Ok.run'.content.now c.loop-run.taken c.in-Ok.run'.taken c.loop-run.invariant run (is_some c.in-Ok.run'.content.now c.if-is_empty.ensures))

pub returns-in_err-extend_from_slice-in-Ok-clause-stops :
    goal.returns-in_err-extend_from_slice-in-Ok-clause-stops
returns-in_err-extend_from_slice-in-Ok-clause-stops c =
    let p = err_from_is_err_and c.from_residual-in_err-extend_from_slice-in-Ok.result c.from_residual-in_err-extend_from_slice-in-Ok.ensures.1 in
    rw (p.1, p.2) tt

pub returns-in-Err-clause-stops : goal.returns-in-Err-clause-stops
returns-in-Err-clause-stops c =
    let here = subst (λ (x : List ℕ). StopsThing (SomeOf (RunOf parts.ChunkLength)) (SomeOf (RunOf parts.ChunkLength)) x c.in-Err.stop) c.behind.ensures c.in-Err.ensures.stops in
    rw (c.behind-in-Err.ensures) (chunks_stop c.loop-run.content.items c.args.bytes.now c.loop-run.taken c.in-Err.stop c.loop-run.invariant here)
