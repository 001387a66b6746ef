use Rattle.std.proofs.Common.{◌↔◌, drop}
use Rattle.bh_spec.specs.Canonical.{FieldsFit}
use Rattle.h1_rules.proofs.Within.{FitIn}
use Rattle.h1_rules.proofs.fitting.fits.Given as goal

abbrev pub invariant-loop-i : goal.invariant-loop-i
invariant-loop-i l = FieldsFit l.limits l.fields.lines ↔ FitIn l.limits.part l.room (drop l.i l.fields.lines)
