use Rattle.std.proofs.Common.{◌≡◌, ◌+◌, drop}
use Rattle.bh_model.specs.Lines.{lines_room}
use Rattle.h1_rules.proofs.lines.room_of.Given as goal

abbrev pub invariant-loop-i : goal.invariant-loop-i
invariant-loop-i l = l.room + lines_room (drop l.i l.fields.lines) ≡ lines_room l.fields.lines
