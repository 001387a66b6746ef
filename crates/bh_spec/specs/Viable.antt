-- Bytes that spell a message, and prefixes that some message continues.
use Rattle.std.specs.Prelude.{ℕ, List}
use Rattle.bh_spec.specs.Bounds.{Bounds}
use Rattle.bh_spec.specs.Messages.{Message}
use Rattle.bh_spec.specs.Texts.{Text}
use Rattle.bh_spec.specs.Pieces.{IsText, CanBecome, IsNext}
use Rattle.bh_spec.specs.Spelling.{Spells}
use Rattle.bh_spec.specs.declared.Part.{Part}
use Rattle.bh_spec.specs.declared.Omitted.{Omitted}

-- The bytes spell the message, with this omission and padding.
abbrev pub SpellsBytes : Bounds → Message → Omitted → ℕ → List ℕ → Type 0
SpellsBytes L m omitted padding = IsText (Spells L m omitted padding)

-- t is a text of some message within the limits.
abbrev pub IsMessageText : Bounds → Text → Type 0
IsMessageText L t = (m : Message) × (omitted : Omitted) × (padding : ℕ) × Spells L m omitted padding t

-- Some message continues the bytes, or is spelled by them.
abbrev pub IsViable : Bounds → List ℕ → Type 0
IsViable L = CanBecome (IsMessageText L)

-- Some text begins with these bytes and is longer, and its next byte carries the part.
abbrev pub NextPart : Bounds → List ℕ → Part → Type 0
NextPart L = IsNext (IsMessageText L)
