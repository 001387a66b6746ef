use Rattle.std.proofs.Common.{◌≡◌, drop}
use Rattle.h1_spec.specs.Http1Text.{has_bad_value}
use Rattle.h1_rules.proofs.judging.has_bad_value.Given as goal

abbrev pub invariant-loop-i : goal.invariant-loop-i
invariant-loop-i l = has_bad_value l.fields.lines ≡ has_bad_value (drop l.i l.fields.lines)
