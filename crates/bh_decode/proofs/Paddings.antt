-- Zeros to the end.
use Rattle.std.proofs.Common.{◌≡◌, ◌<◌, ◌+◌, ℕ, zero, suc, List, [], ◌∷◌, ◌++◌, length, take, get_or, replicate, All, refl, sym, ap, subst, ◌∙◌, arith, append_assoc}
use Rattle.std.proofs.lemmas.List.Elements.{All-replicate, All-head, All-tail}
use Rattle.bh_spec.specs.declared.Part.TheVariants as parts
use Rattle.bh_spec.specs.Texts.{mark, bytes_of, IsRun}
use Rattle.bh_spec.proofs.Marks.{unmark, mark-append}
use Rattle.bh_spec.specs.Pieces.{IsText, CanBecome, IsNext, IsDead}
use Rattle.bh_spec.proofs.Pieces.{next_taken, refused_at}
use Rattle.bh_decode.specs.Grammar.{IsPaddingText}

zeros_more : (n : ℕ) → let zeros : List ℕ = replicate n 0 in zeros ++ 0 ∷ [] ≡ replicate (n + 1) 0
zeros_more zero = refl
zeros_more (suc n) =
    let step : suc n + 1 ≡ suc (n + 1) = omega arith in
    ap (λ (x : List ℕ). 0 ∷ x) (zeros_more n) ∙ sym (ap (λ (k : ℕ). let zeros : List ℕ = replicate k 0 in zeros) step)

pub padding_whole : (bytes : List ℕ) (n : ℕ) → bytes ≡ replicate n 0 → IsText (IsRun parts.Padding (replicate n 0)) bytes
padding_whole bytes n e = record { text = mark parts.Padding (replicate n 0); spelled = refl; same = unmark parts.Padding (replicate n 0) ∙ sym e }

last_is : (front after : List ℕ) (byte : ℕ) → All (λ b. b ≡ 0) (front ++ (byte ∷ after)) → byte ≡ 0
last_is [] after byte all = All-head (λ (b : ℕ). b ≡ 0) byte after all
last_is (b ∷ front) after byte all = last_is front after byte (All-tail (λ (x : ℕ). x ≡ 0) b (front ++ (byte ∷ after)) all)

no_padding : (front : List ℕ) (byte : ℕ) → (byte ≡ 0 → ⊥) → CanBecome IsPaddingText (front ++ byte ∷ []) → ⊥
no_padding front byte some h =
    let zeros : bytes_of h.text ≡ replicate h.spelled.0 0 = ap bytes_of h.spelled.1 ∙ unmark parts.Padding (replicate h.spelled.0 0) in
    let all = All-replicate (λ (b : ℕ). b ≡ 0) h.spelled.0 0 refl in
    some (last_is front h.after byte (subst (All (λ (b : ℕ). b ≡ 0)) (sym zeros ∙ h.begins ∙ append_assoc front (byte ∷ []) h.after) all))

padding_next : (n : ℕ) → IsNext IsPaddingText (replicate n 0) parts.Padding
padding_next n = record {
  before = mark parts.Padding (replicate n 0);
  byte = 0;
  after = [];
  spelled = (n + 1, sym (ap (mark parts.Padding) (sym (zeros_more n)) ∙ mark-append parts.Padding (replicate n 0) (0 ∷ [])));
  begins = unmark parts.Padding (replicate n 0);
}

pub padding_dead : (bytes : List ℕ) (i : ℕ) → take i bytes ≡ replicate i 0 → i < length bytes → (get_or bytes i 0 ≡ 0 → ⊥) → IsDead IsPaddingText IsPaddingText [] bytes i parts.Padding
padding_dead bytes i zeros inside some =
    let none = no_padding (take i bytes) (get_or bytes i 0) some in
    let next : take i bytes ++ get_or bytes i 0 ∷ [] ≡ take (i + 1) bytes = next_taken (take i bytes) [] bytes i refl inside in
    record {
      refused = refused_at IsPaddingText (take i bytes) (take i bytes ++ get_or bytes i 0 ∷ []) [] bytes i parts.Padding refl next inside
          (subst (λ (x : List ℕ). IsNext IsPaddingText x parts.Padding) (sym zeros) (padding_next i)) none;
      anyway = λ b. none (subst (CanBecome IsPaddingText) (sym next) b);
    }
