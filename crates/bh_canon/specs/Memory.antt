-- How much an engine holds.
use Rattle.std.specs.Prelude.{ℕ, ◌+◌, ◌*◌, Option, Some, None, List, [], ◌∷◌, length}
use Rattle.bh_spec.specs.Messages.{Control, Field}
use Rattle.bh_model.specs.Lines.{FieldsView}
use Rattle.bh_model.specs.Values.{control_lent}
use Rattle.bh_canon.specs.declared.memory.Memory.{Memory}

abbrev pub control_bytes : Control → ℕ
control_bytes c = length c.method + length c.scheme + length c.authority + length c.path

abbrev pub line_bytes : Field → ℕ
line_bytes line = length line.name + length line.value

abbrev pub lines_bytes : List Field → ℕ
lines_bytes [] = 0
lines_bytes (line ∷ rest) = line_bytes line + lines_bytes rest

abbrev pub making_bytes : Option Field → ℕ
making_bytes None = 0
making_bytes (Some line) = line_bytes line

-- the bytes of the lines, and of the one that is being made
abbrev pub fields_bytes : FieldsView → ℕ
fields_bytes f = lines_bytes f.lines + making_bytes f.making

-- the bytes in all lists together
abbrev pub bytes_held : Memory → ℕ
bytes_held m = control_bytes (control_lent m.control) + fields_bytes m.fields.now + length m.chunk.now + length m.line.now
    + length m.buffer.now + fields_bytes m.left_out.0.now + fields_bytes m.left_out.1.now

-- the numbers of 32 bits in all indexes: where the name and the value of each line end
abbrev pub numbers_held : Memory → ℕ
numbers_held m = 2 * (length m.fields.now.lines + length m.left_out.0.now.lines + length m.left_out.1.now.lines)
