use Rattle.std.proofs.Common.{◌≡◌, ◌++◌, take}
use Rattle.bh_spec.specs.Canonical.{lines}
use Rattle.bh_encode.proofs.known.add_lines.Given as goal

abbrev pub invariant-loop-i : goal.invariant-loop-i
invariant-loop-i l = l.text.items ≡ l.initial.text.items ++ lines (take l.i l.fields.lines)
