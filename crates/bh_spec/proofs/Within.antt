-- What is within limits.
use Rattle.std.proofs.Common.{◌≡◌, ◌≤◌, arith, ℕ, [], Option, Some, None, refl, sym, subst}
use Rattle.std.proofs.lemmas.List.Elements.{All-nil}
use Rattle.bh_spec.specs.Bounds.{Bounds, IsWithin}
use Rattle.bh_spec.specs.Messages.{IsPseudoField, IsRegularField, AreHeaders}
use Rattle.bh_spec.specs.Sections.{IsLinesWithin}

pub zero_within : (o : Option ℕ) → IsWithin o 0
zero_within None = tt
zero_within (Some most) = omega arith

pub within_less : (o : Option ℕ) (m n : ℕ) → m ≤ n → IsWithin o n → IsWithin o m
within_less None m n h p = tt
within_less (Some most) m n h p = omega arith

pub within_some : (o : Option ℕ) (most n : ℕ) → o ≡ Some most → IsWithin o n → n ≤ most
within_some o most n e h = subst (λ (p : Option ℕ). IsWithin p n) e h

pub some_within : (o : Option ℕ) (most n : ℕ) → o ≡ Some most → n ≤ most → IsWithin o n
some_within o most n e h = subst (λ (p : Option ℕ). IsWithin p n) (sym e) h

-- no lines are within any limits, and a header section may have none
pub no_lines : (L : Bounds) → IsLinesWithin L [] []
no_lines L = record { lines = refl; total = zero_within L.section; names = All-nil _; values = All-nil _ }

pub no_headers : AreHeaders []
no_headers = ([], [], refl, All-nil IsPseudoField, All-nil IsRegularField)
