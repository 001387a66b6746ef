-- Lines that are added one behind another.
use Rattle.std.proofs.Common.{◌≡◌, ◌≤◌, ◌<◌, ◌+◌, ℕ, zero, suc, List, [], ◌∷◌, ◌++◌, Some, None, drop, slice_get, length, refl, ap, subst, sym, ◌∙◌, append_assoc, append-nil, arith}
use Rattle.std.specs.List.{All}
use Rattle.std.proofs.lemmas.List.Elements.{All-head, All-tail, All-cons}
use Rattle.bh_spec.specs.Messages.{Field}
use Rattle.bh_model.specs.Lines.{FieldsView, line_room, lines_room}
use Rattle.h1_head.proofs.Rooms.{grown}
use Rattle.h1_rules.specs.Own.{IsNamed, IsAdding}
use Rattle.h1_rules.proofs.Values.{drop_line}

-- no line is there yet
pub none_added : (to : FieldsView) (all : List Field) → to.lines ≡ [] → to.making ≡ None → lines_room all ≤ to.spare → length all ≤ to.free → IsAdding to to all all
none_added to all empty ended spare free =
    record { lines = ap (λ (ls : List Field). ls ++ all) empty; ended = ended; spare = spare; free = free; room = refl; count = refl }

-- a line was left out
pub left_out : (start to : FieldsView) (left rest all : List Field) → left ≡ rest → IsAdding start to left all → IsAdding start to rest all
left_out start to left rest all e h = let P : List Field → Type 0 = λ ls. IsAdding start to ls all in subst P e h

-- there is room for the next line
pub next_room : (start to : FieldsView) (left all : List Field) (line : Field) (rest : List Field) → left ≡ line ∷ rest → IsAdding start to left all
    → (line_room line ≤ to.spare) × (1 ≤ to.free)
next_room start to left all line rest e h =
    let room = ap lines_room e in
    let count = ap (λ (ls : List Field). length ls) e in
    (omega (arith, room, h.spare), omega (arith, count, h.free))

-- and it was added
pub added : (start to more : FieldsView) (left all : List Field) (line : Field) (rest : List Field) → left ≡ line ∷ rest → more.lines ≡ to.lines ++ line ∷ []
    → more.making ≡ None → more.spare + line_room line ≡ to.spare → more.free + 1 ≡ to.free → IsAdding start to left all → IsAdding start more rest all
added start to more left all line rest e lines ended spare free h =
    let room = ap lines_room e in
    let count = ap (λ (ls : List Field). length ls) e in
    let same = grown to more line h.ended lines ended spare free in
    record {
      lines = ap (λ (ls : List Field). ls ++ rest) lines ∙ append_assoc to.lines (line ∷ []) rest ∙ ap (λ (ls : List Field). to.lines ++ ls) (sym e) ∙ h.lines;
      ended = ended;
      spare = omega (arith, room, h.spare, spare);
      free = omega (arith, count, h.free, free);
      room = same.room ∙ h.room;
      count = same.count ∙ h.count;
    }

-- where none is left, the lines are all
pub lines_added : (start to : FieldsView) (all : List Field) → IsAdding start to [] all → to.lines ≡ all
lines_added start to all h = sym (append-nil to.lines) ∙ h.lines

-- ---- names

pub named_from : (lines : List Field) (i : ℕ) (line : Field) → slice_get lines i ≡ Some line → 0 < length line.name → All IsNamed (drop (i + 1) lines) → All IsNamed (drop i lines)
named_from lines i line at some h =
    subst (λ (ls : List Field). All IsNamed ls) (sym (drop_line lines i line at)) (All-cons IsNamed line (drop (i + 1) lines) some h)

-- each line has a name
pub named_at : (lines : List Field) (i : ℕ) (line : Field) → All IsNamed lines → slice_get lines i ≡ Some line → 0 < length line.name
named_at [] i line h at = absurd cc
named_at (first ∷ rest) zero line h at =
    let same : first ≡ line = cc in
    subst IsNamed same (All-head IsNamed first rest h)
named_at (first ∷ rest) (suc i) line h at = named_at rest i line (All-tail IsNamed first rest h) at
