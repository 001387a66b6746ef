use Rattle.std.proofs.Common.{◌≡◌, None}
use Rattle.encode_tests.proofs.encode.lines.Given as goal

abbrev pub invariant-loop : goal.invariant-loop
invariant-loop l = l.fields.making ≡ None
