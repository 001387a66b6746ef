-- All room of field lines, whether lines use it or not.
use Rattle.std.specs.Prelude.{ℕ, ◌+◌, length}
use Rattle.bh_model.specs.Lines.{FieldsView, lines_room, making_room, making_count}

-- in bytes, and in lines
abbrev pub room_in : FieldsView → ℕ
room_in fields = fields.spare + lines_room fields.lines + making_room fields.making

abbrev pub count_in : FieldsView → ℕ
count_in fields = fields.free + length fields.lines + making_count fields.making
