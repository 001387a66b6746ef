use Rattle.std.proofs.Common.{◌≡◌, drop}
use Rattle.h1_spec.specs.Cleaning.{values_of}
use Rattle.h1_rules.proofs.lines.value_from.Given as goal

abbrev pub invariant-loop-i : goal.invariant-loop-i
invariant-loop-i l = values_of l.name (drop l.fn.from l.fields.lines) ≡ values_of l.name (drop l.i l.fields.lines)
