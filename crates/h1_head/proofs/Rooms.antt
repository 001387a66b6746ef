-- The room of field lines stays where lines are dropped, and where one is added.
use Rattle.std.proofs.Common.{◌≡◌, ◌+◌, List, [], ◌∷◌, ◌++◌, None, length, ap, arith}
use Rattle.std.proofs.lemmas.List.{length-append}
use Rattle.bh_spec.specs.Messages.{Field}
use Rattle.bh_model.specs.Lines.{FieldsView, line_room, lines_room, making_room, making_count}
use Rattle.h1_head.specs.Room.{room_in, count_in}

pub lines_room-append : (a b : List Field) → lines_room (a ++ b) ≡ lines_room a + lines_room b
lines_room-append [] b = omega arith
lines_room-append (line ∷ rest) b = omega (arith, lines_room-append rest b)

pub record HasRoomOf (old new : FieldsView) : Type 0 where
  pub room : room_in new ≡ room_in old
  pub count : count_in new ≡ count_in old

-- lines that were dropped gave their room back
pub cleared : (old new : FieldsView) → new.lines ≡ [] → new.making ≡ None → new.spare ≡ room_in old → new.free ≡ count_in old → HasRoomOf old new
cleared old new empty ended spare free =
    let room = ap lines_room empty in
    let count = ap (λ (ls : List Field). length ls) empty in
    let making = ap making_room ended in
    let made = ap making_count ended in
    record { room = omega arith; count = omega arith }

-- a line uses of the room what it needs
pub grown : (old new : FieldsView) (line : Field) → old.making ≡ None → new.lines ≡ old.lines ++ line ∷ [] → new.making ≡ None
    → new.spare + line_room line ≡ old.spare → new.free + 1 ≡ old.free → HasRoomOf old new
grown old new line before lines ended spare free =
    let used = ap lines_room lines in
    let many = ap (λ (ls : List Field). length ls) lines in
    let room_before = ap making_room before in
    let room_behind = ap making_room ended in
    let count_before = ap making_count before in
    let count_behind = ap making_count ended in
    record {
      room = omega (arith, used, lines_room-append old.lines (line ∷ []), spare);
      count = omega (arith, many, length-append old.lines (line ∷ []), free);
    }
