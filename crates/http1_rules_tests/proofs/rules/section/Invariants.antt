use Rattle.std.proofs.Common.{◌≡◌, None}
use Rattle.http1_rules_tests.proofs.rules.section.Given as goal

abbrev pub invariant-loop-name : goal.invariant-loop-name
invariant-loop-name l = l.fields.making ≡ None
