-- The laws of the format.
use Rattle.std.specs.Prelude.{ℕ, ◌≡◌, List}
use Rattle.bh_spec.specs.declared.Part.{Part}
use Rattle.bh_spec.specs.declared.Omitted.{Omitted}
use Rattle.bh_spec.specs.declared.Omitted.TheVariants.{Nothing}
use Rattle.bh_spec.specs.Bounds.{Bounds, no_bounds}
use Rattle.bh_spec.specs.Messages.{Message, IsValid}
use Rattle.bh_spec.specs.Texts.{Text}
use Rattle.bh_spec.specs.Spelling.{Spells}
use Rattle.bh_spec.specs.Viable.{SpellsBytes, IsViable, NextPart}
use Rattle.bh_spec.specs.Canonical.{canon, known, Fits, integers, IsWritable}
use Rattle.bh_spec.specs.Listing.{show}

-- Bytes have one reading, whatever the limits.
abbrev pub OneReading : Type 0
OneReading = (K L : Bounds) (m n : Message) (o p : Omitted) (y z : ℕ) (bytes : List ℕ)
    → SpellsBytes K m o y bytes → SpellsBytes L n p z bytes → (m ≡ n) × (o ≡ p) × (y ≡ z)

-- All texts that begin with some bytes and are longer have one part there, whatever the limits.
abbrev pub OneNext : Type 0
OneNext = (K L : Bounds) (bytes : List ℕ) (p q : Part) → NextPart K bytes p → NextPart L bytes q → p ≡ q

-- Every viable prefix has a next part.
abbrev pub SomeNext : Type 0
SomeNext = (L : Bounds) (bytes : List ℕ) → IsViable L bytes → (part : Part) × NextPart L bytes part

-- What fits the limits has its canonical text within them, where integers can hold the lengths of its strings. Its content may be
-- of any length, since it stands in chunks.
abbrev pub CanonIsSpelled : Type 0
CanonIsSpelled = (L : Bounds) (m : Message) → IsValid m → Fits integers m → Fits L m → SpellsBytes L m Nothing 0 (canon m)

-- So has it the known-length text, where integers can hold the length of its content too.
abbrev pub KnownIsSpelled : Type 0
KnownIsSpelled = (L : Bounds) (m : Message) → IsValid m → IsWritable m → Fits L m → SpellsBytes L m Nothing 0 (known m)

-- What has some text within the limits fits them.
abbrev pub FitsWhereSpelled : Type 0
FitsWhereSpelled = (L : Bounds) (m : Message) (o : Omitted) (z : ℕ) (t : Text) → Spells L m o z t → Fits L m

-- What is spelled within limits is spelled without.
abbrev pub WithoutLimits : Type 0
WithoutLimits = (L : Bounds) (m : Message) (o : Omitted) (z : ℕ) (t : Text) → Spells L m o z t → Spells no_bounds m o z t

-- Two messages have one canonical text only if they are one.
abbrev pub CanonOnce : Type 0
CanonOnce = (m n : Message) → IsValid m → Fits integers m → IsValid n → Fits integers n → canon m ≡ canon n → m ≡ n

-- Two messages have one listing only if they are one: the listing hides nothing.
abbrev pub OneListing : Type 0
OneListing = (m n : Message) → IsValid m → IsValid n → show m ≡ show n → m ≡ n
