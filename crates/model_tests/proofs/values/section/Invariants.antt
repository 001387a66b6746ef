use Rattle.std.proofs.Common.{◌≡◌, None}
use Rattle.model_tests.proofs.values.section.Given as goal

abbrev pub invariant-loop-name : goal.invariant-loop-name
invariant-loop-name l = l.fields.making ≡ None
