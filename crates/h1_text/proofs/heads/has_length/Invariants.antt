use Rattle.std.proofs.Common.{◌≡◌, drop}
use Rattle.h1_spec.specs.Framing.{lengths}
use Rattle.h1_text.specs.Owed.{is_none}
use Rattle.h1_text.proofs.heads.has_length.Given as goal

abbrev pub invariant-loop-i : goal.invariant-loop-i
invariant-loop-i l = is_none (lengths l.fields.lines) ≡ is_none (lengths (drop l.i l.fields.lines))
