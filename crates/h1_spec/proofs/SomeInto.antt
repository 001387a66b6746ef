-- No input of the translator to HTTP/1.1 is without an answer.
use Rattle.std.proofs.Common.{◌≡◌, ◌⊎◌, ◌<◌, ◌+◌, Bool, arith, ℕ, zero, suc, List, length, take, Option, Some, None, refl, subst, inl, inr}
use Rattle.bh_spec.specs.declared.NoForm.{NoForm}
use Rattle.bh_spec.specs.Bounds.{Bounds, IsWithin}
use Rattle.bh_spec.specs.Answers.{Answer, whole, refused, IsAnswer}
use Rattle.bh_spec.proofs.Existing.{some_answer}
use Rattle.h1_spec.specs.Judging.{IsJudged, NoneIsJudged, IsJudgedAt, place_of, end_says}
use Rattle.h1_spec.specs.Translation.{formed, dead, formless}
use Rattle.h1_spec.specs.Laws.{SomeInto}
use Rattle.h1_spec.proofs.SomeAnswer.{either}

-- ---- judged bytes

module _ (L : Bounds) (to_head : Bool) (bytes : List ℕ) where
  -- one of the first bytes is judged, or none of so many
  first_judged : (most : ℕ) → (NoneIsJudged L to_head bytes most → ⊥) → ((k : ℕ) (form : NoForm) → IsJudgedAt L to_head bytes k form → ⊥)
      → (n j : ℕ) → j + n ≡ most → NoneIsJudged L to_head bytes j → ⊥
  first_judged most free judges zero j s none = let all : j ≡ most = omega (arith, s) in free (subst (NoneIsJudged L to_head bytes) all none)
  first_judged most free judges (suc n) j s none =
      either Here (by_byte (λ more. first_judged most free judges n (j + 1) (omega (arith, s)) more))
    where
      Here : Type 0
      Here = (form : NoForm) × (j < length bytes) × IsWithin L.input (j + 1) × IsJudged L to_head (take (j + 1) bytes) form

      order : (k : ℕ) → k < j + 1 → (k < j) ⊎ (k ≡ j)
      order k h = grind arith

      by_byte : (NoneIsJudged L to_head bytes (j + 1) → ⊥) → Here ⊎ (Here → ⊥) → ⊥
      by_byte again (inl h) = judges j h.0 (record { inside = h.1; seen = h.2; judged = h.3; first = none })
      by_byte again (inr h) = again (λ k form few inside seen judged. by_order k form inside seen judged (order k few))
        where
          by_order : (k : ℕ) (form : NoForm) → k < length bytes → IsWithin L.input (k + 1) → IsJudged L to_head (take (k + 1) bytes) form → (k < j) ⊎ (k ≡ j) → ⊥
          by_order k form inside seen judged (inl l) = none k form l inside seen judged
          by_order k form inside seen judged (inr e) =
              h (form, omega (arith, inside, e), subst (λ (i : ℕ). IsWithin L.input (i + 1)) e seen, subst (λ (i : ℕ). IsJudged L to_head (take (i + 1) bytes) form) e judged)

  judged_or_free : (most : ℕ) → (NoneIsJudged L to_head bytes most → ⊥) → ((k : ℕ) (form : NoForm) → IsJudgedAt L to_head bytes k form → ⊥) → ⊥
  judged_or_free most free judges = first_judged most free judges most 0 (omega arith) (λ k form few inside seen judged. omega (arith, few))

pub some_into : SomeInto
some_into L to_head bytes none = some_answer L bytes by_answer
  where
    judges : (k : ℕ) (form : NoForm) → IsJudgedAt L to_head bytes k form → ⊥
    judges k form h = none (formless form) (inl (k, h))

    by_answer : (answer : Answer) → IsAnswer L bytes answer → ⊥
    by_answer (whole m omitted padding) a = judged_or_free L to_head bytes (length bytes) (λ free. by_end free (end_says to_head m omitted) refl) judges
      where
        by_end : NoneIsJudged L to_head bytes (length bytes) → (o : Option NoForm) → end_says to_head m omitted ≡ o → ⊥
        by_end free None e = none (formed m omitted padding) (record { message = a; none = free }, e)
        by_end free (Some form) e = none (formless form) (inr (m, omitted, padding, record { message = a; none = free }, e))
    by_answer (refused refusal) a = judged_or_free L to_head bytes (place_of refusal) (λ free. none (dead refusal) (a, free)) judges
