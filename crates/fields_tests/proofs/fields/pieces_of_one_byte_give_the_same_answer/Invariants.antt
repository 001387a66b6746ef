use Rattle.std.proofs.Common.{◌≡◌}
use Rattle.bh_spec.specs.Readings.{reading}
use Rattle.fields_tests.proofs.fields.pieces_of_one_byte_give_the_same_answer.Given as goal

abbrev pub invariant-loop-i : goal.invariant-loop-i
invariant-loop-i g l = l.reader.stage ≡ reading
