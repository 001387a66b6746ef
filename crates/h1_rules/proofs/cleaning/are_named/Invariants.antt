use Rattle.std.proofs.Common.{drop}
use Rattle.std.specs.List.{All}
use Rattle.h1_rules.specs.Own.{IsNamed}
use Rattle.h1_rules.proofs.cleaning.are_named.Given as goal

abbrev pub invariant-loop-i : goal.invariant-loop-i
invariant-loop-i l = All IsNamed (drop l.i l.fields.lines) → All IsNamed l.fields.lines
