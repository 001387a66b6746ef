-- A number's digits, one after the other.
use Rattle.std.proofs.Common.{◌≡◌, ◌∙◌, ◌+◌, ◌/◌, ◌%◌, ◌<◌, ◌≤◌, ◌^◌, ℕ, List, [], ◌∷◌, ◌++◌, length, arith, ap, sym, append_assoc}
use Rattle.std.proofs.lemmas.List.{length-append}
use Rattle.std.proofs.lemmas.Fmt.{decimal_digit, decimal_step, length-decimal-le}
use Rattle.std.specs.Fmt.{decimal}

pub one : (n : ℕ) → n < 10 → length (decimal n) ≡ 1
one n small = ap length (decimal_digit n small)

pub more : (n : ℕ) → 10 ≤ n → n < 2 ^ 64 → length (decimal n) ≡ length (decimal (n / 10)) + 1
more n great fits = ap length (decimal_step n great fits) ∙ length-append (decimal (n / 10)) ((48 + n % 10) ∷ [])

pub few : (n : ℕ) → n < 2 ^ 64 → length (decimal n) ≤ 20
few n fits = length-decimal-le 20 n (omega arith) (omega arith) fits

pub joined : (front : List ℕ) (n : ℕ) → 10 ≤ n → n < 2 ^ 64 → (front ++ decimal (n / 10)) ++ ((48 + n % 10) ∷ []) ≡ front ++ decimal n
joined front n great fits = append_assoc front (decimal (n / 10)) ((48 + n % 10) ∷ []) ∙ ap (λ ds. front ++ ds) (sym (decimal_step n great fits))
