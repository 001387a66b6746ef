-- There is room for the lines of heads and trailer sections within the limits.
use Rattle.std.proofs.Common.{◌≤◌, ◌+◌, ℕ, List, [], ◌∷◌, ◌++◌, length, All, ap, arith}
use Rattle.std.specs.Char.{to_ascii_lowercase}
use Rattle.std.proofs.lemmas.List.{length-append, length-map}
use Rattle.bh_spec.specs.Messages.{Field}
use Rattle.bh_spec.specs.Texts.{AreEach}
use Rattle.bh_model.specs.Lines.{lines_room}
use Rattle.h1_spec.specs.Grammar.{Line}
use Rattle.h1_spec.specs.Heads.{IsFieldLine, IsSection, Head, IsHead}
use Rattle.h1_head.specs.Room.{room_in, count_in}
use Rattle.h1_rules.specs.Own.{IsNamed}
use Rattle.h1_rules.proofs.Named.{section_named, few_lines}
use Rattle.h1_rules.proofs.Within.{within_at}
use Rattle.h1_read.specs.declared.heads.HeadJudge.{HeadJudge}
use Rattle.h1_read.specs.HeadJudges.{IsSound, AreTrailers}

-- a line has a colon and its end beside its name and value
line_room : (f : Field) (line : List ℕ) → IsFieldLine f line → length f.name + length f.value + 1 ≤ length line
line_room f line h =
    let value = h.value in
    omega (
      arith,
      ap length h.written,
      ap length h.same_name,
      length-map h.name to_ascii_lowercase,
      length-append h.name (58 ∷ (h.before ++ (f.value ++ h.after))),
      length-append h.before (f.value ++ h.after),
      length-append f.value h.after,
    )

each_room : (fields : List Field) (bytes : List ℕ) → AreEach (λ field. Line (IsFieldLine field)) fields bytes
    → lines_room fields + length fields ≤ length bytes
each_room [] bytes h = omega arith
each_room (f ∷ fields) bytes h =
    omega (
      arith,
      each_room fields h.1 h.3,
      line_room f h.2.0 h.2.2,
      ap length h.4,
      length-append h.0 h.1,
      ap length h.2.4,
      length-append h.2.0 h.2.1,
      ap length h.2.3,
    )

section_room : (fields : List Field) (bytes : List ℕ) → IsSection fields bytes → lines_room fields + length fields ≤ length bytes
section_room fields bytes h = omega (arith, each_room fields h.0 h.2, ap length h.4, length-append h.0 h.1)

-- ---- heads

pub head_named : (head : Head) (bytes : List ℕ) → IsHead head bytes → All IsNamed head.fields
head_named head bytes h = section_named head.fields h.1 h.3

-- ---- trailer sections

pub trailers_named : (j : HeadJudge) (trailers : List Field) → AreTrailers j.limits trailers → All IsNamed trailers
trailers_named j trailers h = section_named trailers h.0 h.1.1

pub trailers_room : (j : HeadJudge) → (sound : IsSound j) → (trailers : List Field) → AreTrailers j.limits trailers
    → (lines_room trailers ≤ room_in j.cleaned) × (length trailers ≤ count_in j.cleaned)
trailers_room j sound trailers h =
    let room = sound.room in
    let few = within_at j.limits.section sound.section (length h.0) sound.section_is h.1.0 in
    let used = section_room trailers h.0 h.1.1 in
    let many = few_lines trailers (trailers_named j trailers h) in (
      omega (arith, few, used, room.raw_room, room.room),
      omega (arith, few, used, many, room.raw_count, room.count),
    )
