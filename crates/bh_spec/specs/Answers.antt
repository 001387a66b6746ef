-- The answer for an input: the message that it spells, or why and where it is refused.
use Rattle.std.specs.Prelude.{ℕ, ◌≡◌, ◌<◌, ◌+◌, List, [], length, take, Some}
use Rattle.bh_spec.specs.Bounds.{Bounds, IsWithin, no_bounds}
use Rattle.bh_spec.specs.Messages.{Message}
use Rattle.bh_spec.specs.Pieces.{IsRefused}
use Rattle.bh_spec.specs.Viable.{SpellsBytes, IsMessageText, IsViable, NextPart}
use Rattle.bh_spec.specs.declared.Part.{Part}
use Rattle.bh_spec.specs.declared.Omitted.{Omitted}
use Rattle.bh_spec.specs.declared.Refusal.{Refusal}
use Rattle.bh_spec.specs.declared.Refusal.TheVariants.{Dead, Limit, Ended, TooLong}

pub data Answer : Type 0 where
  -- the message, what the input leaves out, and how many zeros of padding it has
  whole : Message → Omitted → ℕ → Answer
  refused : Refusal → Answer

-- The byte numbered `at` is the first, within the limit of the input, after which no message within the limits continues the bytes:
-- the input is one piece, with nothing before it.
pub record IsRefusedAt (L : Bounds) (bytes : List ℕ) (at : ℕ) (part : Part) : Type 0 where
  pub seen : IsWithin L.input (at + 1)
  pub first : IsRefused (IsMessageText L) [] bytes at part

-- The whole input is viable, and isn't a message.
pub record HasEnded (L : Bounds) (bytes : List ℕ) (at : ℕ) (part : Part) : Type 0 where
  pub long : at ≡ length bytes
  pub seen : IsWithin L.input at
  pub viable : IsViable L bytes
  pub unfinished : (m : Message) (omitted : Omitted) (padding : ℕ) → SpellsBytes L m omitted padding bytes → ⊥
  pub next : NextPart L bytes part

-- The input is longer than the limit, and nothing before it is refused.
pub record IsTooLong (L : Bounds) (bytes : List ℕ) (at : ℕ) : Type 0 where
  pub limit : L.input ≡ Some at
  pub more : at < length bytes
  pub viable : IsViable L (take at bytes)

-- `Dead`: without limits nothing continues the bytes either. `Limit`: without limits something does.
abbrev pub IsAnswer : Bounds → List ℕ → Answer → Type 0
IsAnswer L bytes (whole m omitted padding) = IsWithin L.input (length bytes) × SpellsBytes L m omitted padding bytes
IsAnswer L bytes (refused (Dead at part)) = IsRefusedAt L bytes at part × (IsViable no_bounds (take (at + 1) bytes) → ⊥)
IsAnswer L bytes (refused (Limit at part)) = IsRefusedAt L bytes at part × IsViable no_bounds (take (at + 1) bytes)
IsAnswer L bytes (refused (Ended at part)) = HasEnded L bytes at part
IsAnswer L bytes (refused (TooLong at)) = IsTooLong L bytes at
