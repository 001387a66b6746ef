-- A size in four digits, without its leading zeros.
use Rattle.std.proofs.Common.{◌≡◌, ◌≤◌, ◌<◌, ◌/◌, ◌%◌, arith, nat_lt, ℕ, suc, List, [], ◌∷◌, ◌++◌, drop, sym, ap, ap₂, ◌∙◌}
use Rattle.std.specs.Char.{digit_char}
use Rattle.std.proofs.lemmas.Bool.{cond-true, cond-false, lt-ltb, le-ltb}
use Rattle.h1_spec.specs.Http1Text.{hex_within}
use Rattle.h1_body.specs.Sizes.{four_digits}

one_digit : (turns n : ℕ) → n < 16 → hex_within (suc turns) n ≡ digit_char n ∷ []
one_digit turns n h = cond-true (nat_lt n 16) _ _ (lt-ltb n 16 h)

more_digits : (turns n : ℕ) → 16 ≤ n → hex_within (suc turns) n ≡ hex_within turns (n / 16) ++ (digit_char (n % 16) ∷ [])
more_digits turns n h = cond-false (nat_lt n 16) _ _ (le-ltb n 16 h)

two_digits : (turns n : ℕ) → 16 ≤ n → n < 256 → hex_within (suc (suc turns)) n ≡ digit_char (n / 16) ∷ digit_char (n % 16) ∷ []
two_digits turns n h k = more_digits (suc turns) n h ∙ ap (λ (z : List ℕ). z ++ (digit_char (n % 16) ∷ [])) (one_digit turns (n / 16) (omega arith))

three_digits : (turns n : ℕ) → 256 ≤ n → n < 4096 → hex_within (suc (suc (suc turns))) n ≡ digit_char (n / 16 / 16) ∷ digit_char (n / 16 % 16) ∷ digit_char (n % 16) ∷ []
three_digits turns n h k =
    more_digits (suc (suc turns)) n (omega arith) ∙ ap (λ (z : List ℕ). z ++ (digit_char (n % 16) ∷ [])) (two_digits turns (n / 16) (omega arith) (omega arith))

pub digits_below_16 : (n : ℕ) → n < 16 → drop 3 (four_digits n) ≡ hex_within 15 n
digits_below_16 n h = ap (λ (x : ℕ). digit_char x ∷ []) (omega arith) ∙ sym (one_digit 14 n h)

pub digits_below_256 : (n : ℕ) → 16 ≤ n → n < 256 → drop 2 (four_digits n) ≡ hex_within 15 n
digits_below_256 n h k = ap (λ (x : ℕ). digit_char x ∷ digit_char (n % 16) ∷ []) (omega arith) ∙ sym (two_digits 13 n h k)

pub digits_below_4096 : (n : ℕ) → 256 ≤ n → n < 4096 → drop 1 (four_digits n) ≡ hex_within 15 n
digits_below_4096 n h k =
    ap (λ (x : ℕ). digit_char x ∷ digit_char (n / 16 % 16) ∷ digit_char (n % 16) ∷ []) (omega arith) ∙ sym (three_digits 12 n h k)

pub all_digits : (n : ℕ) → 4096 ≤ n → n ≤ 8192 → four_digits n ≡ hex_within 15 n
all_digits n h k =
    ap₂ (λ (x y : ℕ). digit_char x ∷ digit_char y ∷ digit_char (n / 16 % 16) ∷ digit_char (n % 16) ∷ []) (omega arith) (omega arith)
    ∙ sym (more_digits 14 n (omega arith) ∙ ap (λ (z : List ℕ). z ++ (digit_char (n % 16) ∷ [])) (three_digits 11 (n / 16) (omega arith) (omega arith)))
