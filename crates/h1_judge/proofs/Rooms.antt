-- There is room for the sections of valid messages within the limits.
use Rattle.std.proofs.Common.{◌≡◌, ◌≤◌, ◌+◌, ◌*◌, ◌/◌, List, [], ◌∷◌, length, All, arith}
use Rattle.std.proofs.lemmas.List.{length-append}
use Rattle.bh_spec.specs.Bounds.{Bounds}
use Rattle.bh_spec.specs.Integers.{int}
use Rattle.bh_spec.specs.Messages.{Field}
use Rattle.bh_spec.specs.Canonical.{string, line, lines, FieldsFit}
use Rattle.bh_spec.proofs.Widths.{int_some}
use Rattle.bh_model.specs.Lines.{FieldsView, lines_room}
use Rattle.h1_head.specs.Room.{room_in, count_in}
use Rattle.h1_rules.specs.Hopping.{HopsView}
use Rattle.h1_rules.specs.Own.{IsNamed}
use Rattle.h1_rules.proofs.Named.{few_lines}
use Rattle.h1_rules.proofs.Within.{within_at}
use Rattle.h1_judge.specs.Judges.{HasRoom, HasRoomOf, IsSound}
use Rattle.h1_judge.specs.declared.judging.Judge.{Judge}

-- the text of lines has two bytes at least beside each name and value
pub room_lines : (fields : List Field) → lines_room fields ≤ length (lines fields)
room_lines [] = omega arith
room_lines (f ∷ fields) =
    omega (
      arith,
      room_lines fields,
      length-append (line f) (lines fields),
      length-append (string f.name) (string f.value),
      length-append (int (length f.name)) f.name,
      length-append (int (length f.value)) f.value,
      int_some (length f.name),
      int_some (length f.value),
    )

within : (L : Bounds) (hops : HopsView) (cleaned : FieldsView) (room : HasRoom L hops cleaned) (fields : List Field) → FieldsFit L fields
    → lines_room fields ≤ room.section
within L hops cleaned room fields fits = omega (arith, room_lines fields, within_at L.section room.section (length (lines fields)) room.section_is fits.total)

pub room_of : (L : Bounds) (j : Judge) → IsSound L j → (fields : List Field) → FieldsFit L fields → All IsNamed fields → HasRoomOf j fields
room_of L j sound fields fits named =
    let room = sound.room in
    let few = within L j.hops j.cleaned room fields fits in
    record {
      names = omega (arith, few, room.names);
      lines = omega (arith, few, room.lines);
      count = omega (arith, few, few_lines fields named, room.count);
    }
