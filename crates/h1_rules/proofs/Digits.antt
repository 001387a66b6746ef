-- A number of 18 digits, digit by digit.
use Rattle.std.proofs.Common.{◌≡◌, ◌≤◌, ◌<◌, ◌+◌, ◌*◌, ◌^◌, ℕ, List, length, take, get_or, arith, rules, IsTrue, sym}
use Rattle.std.specs.Char.{digit_value}
use Rattle.std.specs.List.{All}
use Rattle.std.specs.Str.Parse.{digits_value}
use Rattle.std.proofs.lemmas.Int.Digits.{digits_value_more}
use Rattle.std.proofs.lemmas.List.Elements.{All-head, All-tail, All-cons, All-nil}
use Rattle.std.proofs.lemmas.Str.Parse.{IsDigitsTest, IsNumeralModel, numerals_by_value, digits_value_short, digits_value-take-le}
use Rattle.std.specs.Int.{IsInRange}
use Rattle.bh_spec.specs.Bytes.{is_digit}

abbrev IsDigit : ℕ → Type 0
IsDigit byte = IsTrue (is_digit byte)

in_range : (byte : ℕ) → IsDigit byte → IsInRange 48 57 byte
in_range byte h = search rules

digit_in : (byte : ℕ) → IsInRange 48 57 byte → IsDigit byte
digit_in byte h = search rules

tells : IsDigitsTest (All IsDigit)
tells = record {
  empty = All-nil IsDigit;
  parts = λ c cs all. (in_range c (All-head IsDigit c cs all), All-tail IsDigit c cs all);
  more = λ c cs digit all. All-cons IsDigit c cs (digit_in c digit) all;
}

model : IsNumeralModel (All IsDigit) (digits_value 10)
model = numerals_by_value (All IsDigit) tells

-- a number of 18 digits at most
pub few_digits : (digits : List ℕ) → length digits ≤ 18 → All IsDigit digits → digits_value 10 digits < 10 ^ 18
few_digits digits few each = digits_value_short model digits 18 each few

-- The digits up to one, and that one, are no more than all.
pub digit_more : (digits : List ℕ) (i : ℕ) → i < length digits → length digits ≤ 18 → All IsDigit digits
    → (digits_value 10 (take i digits) * 10 + digit_value (get_or digits i 0) ≡ digits_value 10 (take (i + 1) digits))
    × (digits_value 10 (take i digits) * 10 + digit_value (get_or digits i 0) < 10 ^ 18)
digit_more digits i inside few each =
    let step = digits_value_more 10 digits i inside in
    let most : digits_value 10 (take (i + 1) digits) ≤ digits_value 10 digits = digits_value-take-le 10 digits (i + 1) (omega arith) in
    let all : digits_value 10 digits < 10 ^ 18 = digits_value_short model digits 18 each few in
    (sym step, omega arith)
