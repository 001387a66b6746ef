use Rattle.std.proofs.Common.{◌≡◌, ℕ, length, take, replicate, arith, sym, ap, ◌∙◌}
use Rattle.std.proofs.lemmas.List.{take_all}
use Rattle.bh_decode.proofs.Paddings.{padding_whole, padding_dead}
use Rattle.bh_decode.proofs.padding.read_padding.Goals as goal

pub returns-then-not-is_zero-clause-stops : goal.returns-then-not-is_zero-clause-stops
returns-then-not-is_zero-clause-stops c = padding_dead c.args.bytes.now c.loop-i.i c.loop-i.invariant c.loop-i-test.true (c.is_zero.ensures.other c.if-not-is_zero.true)

pub returns-clause-whole : goal.returns-clause-whole
returns-clause-whole c =
    let all : c.loop-i.i ≡ length c.args.bytes.now = omega (arith, c.loop-i.auto.i-end, c.loop-i-test.false) in
    padding_whole c.args.bytes.now (length c.args.bytes.now)
    (sym (take_all (length c.args.bytes.now) c.args.bytes.now (omega arith)) ∙ ap (λ (n : ℕ). take n c.args.bytes.now) (sym all) ∙ c.loop-i.invariant ∙ ap (λ (n : ℕ). replicate n 0) all)
