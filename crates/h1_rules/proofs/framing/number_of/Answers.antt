use Rattle.std.proofs.Common.{arith}
use Rattle.h1_rules.proofs.Digits.{digit_more}
use Rattle.h1_rules.proofs.framing.number_of.Goals as goal

pub overflow_mul-number : goal.overflow_mul-number
overflow_mul-number c =
    let more = digit_more c.args.digits.now c.loop-digit.digit-index (omega arith) c.requires.few c.requires.each in
    let before = c.loop-digit.invariant in
    omega (arith, more.1)

pub overflow_add-number : goal.overflow_add-number
overflow_add-number c =
    let more = digit_more c.args.digits.now c.loop-digit.digit-index (omega arith) c.requires.few c.requires.each in
    let before = c.loop-digit.invariant in
    omega (arith, more.1, c.value_of.ensures)

pub loop-digit-preserved : goal.loop-digit-preserved
loop-digit-preserved c =
    let more = digit_more c.args.digits.now c.loop-digit.digit-index (omega arith) c.requires.few c.requires.each in
    let before = c.loop-digit.invariant in
    omega (arith, more.0, c.value_of.ensures)
