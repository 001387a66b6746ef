-- The values of the lines of one name, line by line.
use Rattle.std.proofs.Common.{◌≡◌, ◌+◌, ℕ, suc, zero, List, [], ◌∷◌, map, drop, Some, slice_get, bytes_eq, true, false, ap, ◌∙◌, add-one}
use Rattle.std.proofs.lemmas.Bool.{cond-true, cond-false}
use Rattle.bh_spec.specs.Messages.{Field}
use Rattle.h1_spec.specs.Cleaning.{values_of}

-- the element at a place, and what stands behind it
drop_got : {X : Type 0} (xs : List X) (i : ℕ) (x : X) → slice_get xs i ≡ Some x → drop i xs ≡ x ∷ drop (suc i) xs
drop_got [] i x e = absurd cc
drop_got {X} (y ∷ xs) zero x e =
    let same : y ≡ x = cc in
    ap (λ (z : X). z ∷ xs) same
drop_got (y ∷ xs) (suc i) x e = drop_got xs i x e

pub drop_line : {X : Type 0} (xs : List X) (i : ℕ) (x : X) → slice_get xs i ≡ Some x → drop i xs ≡ x ∷ drop (i + 1) xs
drop_line xs i x e = rw add-one (drop_got xs i x e)

abbrev value_in : Field → List ℕ
value_in field = field.value

-- where the line at a place has the name, its value is the next
pub value_here : (name : List ℕ) (lines : List Field) (i : ℕ) (line : Field) → slice_get lines i ≡ Some line → bytes_eq line.name name ≡ true
    → values_of name (drop i lines) ≡ line.value ∷ values_of name (drop (i + 1) lines)
value_here name lines i line e h =
    ap (values_of name) (drop_line lines i line e)
    ∙ ap (map value_in) (cond-true (bytes_eq line.name name) _ _ h)

-- where it has another, the values are those behind it
pub value_later : (name : List ℕ) (lines : List Field) (i : ℕ) (line : Field) → slice_get lines i ≡ Some line → bytes_eq line.name name ≡ false
    → values_of name (drop i lines) ≡ values_of name (drop (i + 1) lines)
value_later name lines i line e h =
    ap (values_of name) (drop_line lines i line e)
    ∙ ap (map value_in) (cond-false (bytes_eq line.name name) _ _ h)
