-- Content cut in lines of 32 bytes, in two parts.
use Rattle.std.proofs.Common.{◌≡◌, ◌≤◌, ◌<◌, ◌+◌, ◌*◌, ◌/◌, ℕ, zero, suc, List, [], ◌∷◌, ◌++◌, length, take, drop, map, refl, sym, ap, ap₂, ◌∙◌, append_assoc, arith}
use Rattle.std.proofs.lemmas.List.{length-drop, length-append, take_all, drop_all, take-append-le, drop-append-le, take-append-drop, map-append}
use Rattle.bh_spec.specs.Canonical.{cut}
use Rattle.bh_spec.specs.Listing.{content, content_lines}
use Rattle.bh_spec.proofs.Written.{cut_once, cut_few}
use Rattle.bh_text.specs.Showing.{filled, unfilled}

nothing : (xs : List ℕ) → length xs ≡ 0 → xs ≡ []
nothing [] e = refl
nothing (x ∷ xs) e = absurd (omega arith)

-- one line
pub one_line : (xs : List ℕ) → 0 < length xs → length xs ≤ 32 → content_lines xs ≡ content xs ∷ []
one_line xs some few = ap (map content) (cut_few 32 xs some few)

-- whole lines, and what follows them
whole_first : (k : ℕ) (a b : List ℕ) → length a ≡ k * 32 → cut 32 (a ++ b) ≡ cut 32 a ++ cut 32 b
whole_first zero a b e = let none : a ≡ [] = nothing a (omega (arith, e)) in ap (λ (l : List ℕ). cut 32 (l ++ b)) none ∙ sym (ap (λ (l : List ℕ). cut 32 l ++ cut 32 b) none)
whole_first (suc k) a b e =
    let size : length (drop 32 a) ≡ k * 32 = omega (arith, e, length-drop 32 a) in
    let long : 32 ≤ length a = omega (arith, e) in
    let all = length-append a b in
    cut_once 32 (a ++ b) (omega arith) (omega (arith, all, long))
    ∙ ap₂ (λ (x : List ℕ) (y : List (List ℕ)). x ∷ y) (take-append-le 32 a b long) (ap (cut 32) (drop-append-le 32 a b long) ∙ whole_first k (drop 32 a) b size)
    ∙ ap (λ (y : List (List ℕ)). y ++ cut 32 b) (sym (cut_once 32 a (omega arith) (omega (arith, long))))

pub lines_on : (k : ℕ) (a b : List ℕ) → length a ≡ k * 32 → content_lines (a ++ b) ≡ content_lines a ++ content_lines b
lines_on k a b e = ap (map content) (whole_first k a b e) ∙ map-append content (cut 32 a) (cut 32 b)

-- whole lines and less than one line: the bytes that fill lines, and those that don't
pub parts : (k : ℕ) (xs a b : List ℕ) → xs ≡ a ++ b → length a ≡ k * 32 → length b < 32 → (a ≡ filled xs) × (b ≡ unfilled xs)
parts k xs a b e size few =
    let all : length xs ≡ k * 32 + length b = ap length e ∙ length-append a b ∙ ap (λ (n : ℕ). n + length b) size in
    let at : length xs / 32 * 32 ≡ length a = omega (arith, all, few, size) in (
      sym (take_all (length a) a (omega arith)) ∙ sym (take-append-le (length a) a b (omega arith)) ∙ ap₂ (λ (n : ℕ) (l : List ℕ). take n l) (sym at) (sym e),
      ap (λ (l : List ℕ). l ++ b) (sym (drop_all (length a) a (omega arith))) ∙ sym (drop-append-le (length a) a b (omega arith)) ∙ ap₂ (λ (n : ℕ) (l : List ℕ). drop n l) (sym at) (sym e),
    )

pub filled_size : (xs : List ℕ) → length (filled xs) ≡ (length xs / 32) * 32
filled_size xs = omega (arith, sym (ap length (take-append-drop (length xs / 32 * 32) xs)), length-append (filled xs) (unfilled xs), length-drop (length xs / 32 * 32) xs)

-- what waits goes into the lines of what comes behind it
pub lines_behind : (xs ys : List ℕ) → content_lines (filled xs) ++ content_lines (unfilled xs ++ ys) ≡ content_lines (xs ++ ys)
lines_behind xs ys =
    sym (lines_on (length xs / 32) (filled xs) (unfilled xs ++ ys) (filled_size xs))
    ∙ ap content_lines (sym (append_assoc (filled xs) (unfilled xs) ys) ∙ ap (λ (l : List ℕ). l ++ ys) (take-append-drop (length xs / 32 * 32) xs))
