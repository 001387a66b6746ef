-- What the bytes of a number may become, with a greatest number.
use Rattle.std.proofs.Common.{◌≡◌, ◌<◌, ◌≤◌, ◌+◌, ℕ, List, [], length, take, false, None, refl, sym, subst, inl, inr, arith}
use Rattle.bh_spec.specs.declared.Part.{Part}
use Rattle.bh_spec.specs.declared.Width.{Width}
use Rattle.bh_spec.specs.declared.Width.TheVariants.{One}
use Rattle.bh_spec.specs.declared.Allowed.{Allowed}
use Rattle.bh_spec.specs.Integers.{IsAllowed, SomeBegins}
use Rattle.bh_spec.proofs.Numbers.{number_meets}
use Rattle.bh_varint.specs.Step.{IsWhole, IsUnfinished}
use Rattle.bh_varint.specs.Numbers.{IsSetOf}
use Rattle.bh_varint.proofs.Numbers.{becomes_begins, begins_next, whole_text}
use Rattle.bh_spec.specs.Pieces.{SomeOf, IsText, CanBecome, IsNext, Ends, IsDead}
use Rattle.bh_spec.proofs.Pieces.{next_unfinished, refused_at}
use Rattle.bh_decode.specs.Stops.{IsCutThing}
use Rattle.bh_decode.specs.Numbers.{NumberOf}
use Rattle.bh_decode.proofs.Contexts.{AreOnce, once_of}

abbrev pub up_to : ℕ → Allowed
up_to most = record { zero = false; span = record { low = 0; high = most }; rest = None }

abbrev IsUpTo : ℕ → ℕ → Type 0
IsUpTo most n = n ≤ most

number_set : (most : ℕ) → IsSetOf (up_to most) (IsUpTo most)
number_set most n bytes = (allowed, λ h. inr ((omega arith, h), tt))
  where
    allowed : IsAllowed (up_to most) bytes n → n ≤ most
    allowed (inl z) = absurd cc
    allowed (inr h) = h.0.1

pub numbers_once : (part : Part) (most : ℕ) → AreOnce (NumberOf part most)
numbers_once part most m n t u a b = number_meets part m n t u a.spelled b.spelled

pub nothing_begins : (most : ℕ) → SomeBegins (up_to most) []
nothing_begins most = (0, One, (omega arith, (_, refl)), (number_set most 0 1).1 (omega arith))

-- ---- what a reader knows at a byte

pub record AtByte (most : ℕ) (bytes now : List ℕ) (i : ℕ) : Type 0 where
  pub so_far : now ≡ take i bytes
  pub begins : SomeBegins (up_to most) now
  pub unfinished : IsUnfinished now

pub number_whole : (part : Part) (most : ℕ) (bytes next : List ℕ) (i n : ℕ) (w : Width) → next ≡ take (i + 1) bytes → i < length bytes
    → IsWhole (up_to most) next n w → Ends (NumberOf part most n) [] bytes (i + 1)
number_whole part most bytes next i n w e inside h = record {
  within = omega arith;
  whole = subst (IsText (NumberOf part most n)) e (whole_text part (IsUpTo most) (up_to most) next n w (number_set most) h);
}

pub number_dead : (part : Part) (most : ℕ) (bytes now next : List ℕ) (i : ℕ) → AtByte most bytes now i → next ≡ take (i + 1) bytes → i < length bytes
    → (SomeBegins (up_to most) next → ⊥) → IsDead (SomeOf (NumberOf part most)) (SomeOf (NumberOf part most)) [] bytes i part
number_dead part most bytes now next i at e inside dead = record {
  refused = refused_at (SomeOf (NumberOf part most)) now next [] bytes i part at.so_far e inside (begins_next part (IsUpTo most) (up_to most) now (number_set most) at.begins at.unfinished)
      (λ b. dead (becomes_begins part (IsUpTo most) (up_to most) next (number_set most) b));
  anyway = λ b. dead (becomes_begins part (IsUpTo most) (up_to most) next (number_set most) (subst (CanBecome (SomeOf (NumberOf part most))) (sym e) b));
}

pub number_ended : (part : Part) (most : ℕ) (bytes now : List ℕ) → now ≡ bytes → SomeBegins (up_to most) now → IsUnfinished now → IsCutThing (SomeOf (NumberOf part most)) bytes part
number_ended part most bytes now e begins short =
    let next = subst (λ (x : List ℕ). IsNext (SomeOf (NumberOf part most)) x part) e (begins_next part (IsUpTo most) (up_to most) now (number_set most) begins short) in
    record {
      on = next_unfinished (SomeOf (NumberOf part most)) (once_of (NumberOf part most) (numbers_once part most)) [] bytes part next;
      next = next;
    }
