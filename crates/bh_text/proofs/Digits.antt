-- Bytes as hexadecimal digits, piece by piece.
use Rattle.std.proofs.Common.{◌≡◌, ◌/◌, ◌%◌, ◌*◌, ℕ, append_assoc, List, [], ◌∷◌, ◌++◌, length, take, drop, refl, sym, ap, ap₂, ◌∙◌, arith, take-append-drop, append-nil}
use Rattle.std.proofs.lemmas.Grind.{flat_map-append}
use Rattle.std.proofs.lemmas.List.{take_all, take-append-le}
use Rattle.hex.specs.Hex.{encode_lower, encode_with}
use Rattle.bh_spec.specs.Listing.{digit, hex}
use Rattle.bh_base.specs.Steps.{Step}
use Rattle.bh_base.specs.Batches.{BatchView, Puts}
use Rattle.bh_base.proofs.Putting.{puts_none, puts_on, puts_as}

pub same_digits : (bytes : List ℕ) → encode_lower bytes ≡ hex bytes
unfolding encode_with
same_digits [] = refl
same_digits (b ∷ bytes) = ap (λ (l : List ℕ). digit (b / 16) ∷ digit (b % 16) ∷ l) (same_digits bytes)

pub two_each : (bytes : List ℕ) → length (hex bytes) ≡ length bytes * 2
two_each [] = refl
two_each (b ∷ bytes) = omega (arith, two_each bytes)

-- the front of a buffer, in which the digits stand
pub digits_in : (bytes out back : List ℕ) → out ≡ encode_lower bytes → take (length bytes * 2) (out ++ back) ≡ hex bytes
digits_in bytes out back e =
    let is : out ≡ hex bytes = e ∙ same_digits bytes in
    ap (λ (l : List ℕ). take (length bytes * 2) (l ++ back)) is ∙ take-append-le (length bytes * 2) (hex bytes) back (omega (arith, two_each bytes)) ∙ take_all (length bytes * 2) (hex bytes) (omega (arith, two_each bytes))

hex-append : (a b : List ℕ) → hex (a ++ b) ≡ hex a ++ hex b
hex-append a b = flat_map-append (λ (byte : ℕ). digit (byte / 16) ∷ digit (byte % 16) ∷ []) a b

-- The digits of what stands before the rest were put.
pub record DigitsSo {S : Type 0} (step : S → Step → S → Type 0) (s : S) (b : BatchView) (bytes rest : List ℕ) (t : S) (c : BatchView) : Type 0 where
  pub done : List ℕ
  pub split : bytes ≡ done ++ rest
  pub put : Puts step s b (hex done) t c

module _ {S : Type 0} {step : S → Step → S → Type 0} where
  pub digits_start : (s : S) (b : BatchView) (bytes : List ℕ) → DigitsSo step s b bytes bytes s b
  digits_start s b bytes = record { done = []; split = refl; put = puts_none }

  pub digits_on : {s t u : S} {b c d : BatchView} {bytes rest : List ℕ} (n : ℕ) (piece back : List ℕ) → piece ≡ take n rest → back ≡ drop n rest → Puts step t c (hex piece) u d
      → DigitsSo step s b bytes rest t c → DigitsSo step s b bytes back u d
  digits_on {rest = rest} n piece back p q put so = record {
    done = so.done ++ piece;
    split = so.split ∙ ap (λ (l : List ℕ). so.done ++ l) (sym (take-append-drop n rest) ∙ ap₂ (λ (k l : List ℕ). k ++ l) (sym p) (sym q)) ∙ sym (append_assoc so.done piece back);
    put = puts_as (sym (hex-append so.done piece)) (puts_on so.put put);
  }

  pub digits_end : {s t : S} {b c : BatchView} {bytes rest : List ℕ} → length rest ≡ 0 → DigitsSo step s b bytes rest t c → Puts step s b (hex bytes) t c
  digits_end {bytes = bytes} {rest = rest} e so = puts_as (ap hex (sym (append-nil so.done) ∙ ap (λ (l : List ℕ). so.done ++ l) (sym (none rest e)) ∙ sym so.split)) so.put
    where
      none : (xs : List ℕ) → length xs ≡ 0 → xs ≡ []
      none [] e = refl
      none (x ∷ xs) e = absurd (omega arith)
