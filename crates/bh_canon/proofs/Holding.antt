-- How much an engine holds.
use Rattle.std.proofs.Common.{◌≡◌, ◌≤◌, ◌+◌, ◌*◌, ◌/◌, Option, Some, None, List, [], ◌∷◌, length, arith, sym, subst, unwrap_or}
use Rattle.bh_spec.specs.Bounds.{Bounds}
use Rattle.bh_spec.specs.Messages.{Control, Field}
use Rattle.bh_model.specs.Lines.{FieldsView, lines_room, making_room}
use Rattle.bh_model.specs.Ranges.{AreLimits}
use Rattle.bh_control.specs.Stored.{AreWithin}
use Rattle.bh_fields.specs.Readers.{AreStored}
use Rattle.bh_canon.specs.Memory.{control_bytes, lines_bytes, making_bytes, fields_bytes}

lines_few : (lines : List Field) → lines_bytes lines ≤ lines_room lines
lines_few [] = omega arith
lines_few (line ∷ rest) = omega (arith, lines_few rest)

making_few : (making : Option Field) → making_bytes making ≤ making_room making
making_few None = omega arith
making_few (Some line) = omega arith

-- where no line is stored and none is begun
pub none_held : (f : FieldsView) → f.lines ≡ [] → f.making ≡ None → fields_bytes f ≡ 0
none_held f lines making =
    subst (λ (ls : List Field). lines_bytes ls + making_bytes f.making ≡ 0) (sym lines)
    (subst (λ (m : Option Field). lines_bytes [] + making_bytes m ≡ 0) (sym making) (omega arith))

pub control_few : (L : Bounds) (c : Control) → AreLimits L → AreWithin L.part c → control_bytes c ≤ 4 * unwrap_or L.part 0
control_few L c limits within =
    let inside = subst (λ (K : Bounds). AreWithin K.part c) limits.same within in
    subst (λ (K : Bounds). control_bytes c ≤ 4 * unwrap_or K.part 0) (sym limits.same)
    (omega (arith, inside.method, inside.scheme, inside.authority, inside.path))

pub fields_few : (L : Bounds) (f : FieldsView) → AreLimits L → AreStored L f → fields_bytes f ≤ unwrap_or L.section 0
fields_few L f limits stored =
    let inside = subst (λ (K : Bounds). AreStored K f) limits.same stored in
    subst (λ (K : Bounds). fields_bytes f ≤ unwrap_or K.section 0) (sym limits.same)
    (omega (arith, inside.bytes, lines_few f.lines, making_few f.making))

pub lines_count : (L : Bounds) (f : FieldsView) → AreLimits L → AreStored L f → length f.lines ≤ unwrap_or L.section 0 / 3
lines_count L f limits stored =
    let inside = subst (λ (K : Bounds). AreStored K f) limits.same stored in
    subst (λ (K : Bounds). length f.lines ≤ unwrap_or K.section 0 / 3) (sym limits.same) (omega (arith, inside.count))
