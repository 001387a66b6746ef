use Rattle.std.proofs.Common.{◌≡◌, length, take}
use Rattle.bh_spec.specs.Canonical.{lines}
use Rattle.bh_encode.proofs.known.lines_bytes.Given as goal

abbrev pub invariant-loop-i : goal.invariant-loop-i
invariant-loop-i l = l.all ≡ length (lines (take l.i l.fields.lines))
