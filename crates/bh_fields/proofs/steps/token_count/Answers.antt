use Rattle.std.proofs.Common.{arith, IsTrue, sym, ◌∙◌}
use Rattle.std.proofs.lemmas.List.Elements.{All-more}
use Rattle.bh_spec.specs.Bytes.{is_token}
use Rattle.bh_fields.proofs.steps.token_count.Goals as goal

pub loop-count-preserved : goal.loop-count-preserved
loop-count-preserved c =
    let i = c.loop-count.invariant in
    (omega (arith, c.loop-count-test.true), All-more (λ byte. IsTrue (is_token byte)) c.args.bytes.now c.loop-count.count 0 c.loop-count-test.true i.1 (sym c.is_token.ensures ∙ c.if-not-is_token.false))
