use Rattle.std.proofs.Common.{◌≡◌, drop}
use Rattle.std.specs.List.{list_any}
use Rattle.h1_spec.specs.Http1Text.{is_pseudo}
use Rattle.h1_rules.proofs.judging.has_pseudo.Given as goal

abbrev pub invariant-loop-i : goal.invariant-loop-i
invariant-loop-i l = list_any is_pseudo l.fields.lines ≡ list_any is_pseudo (drop l.i l.fields.lines)
