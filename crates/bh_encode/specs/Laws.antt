-- What is written is read back.
use Rattle.std.specs.Prelude.{length}
use Rattle.bh_spec.specs.declared.Omitted.TheVariants.{Nothing}
use Rattle.bh_spec.specs.Bounds.{Bounds, IsWithin}
use Rattle.bh_spec.specs.Messages.{Message, IsValid}
use Rattle.bh_spec.specs.Answers.{whole, IsAnswer}
use Rattle.bh_spec.specs.Canonical.{canon, known, Fits, integers, IsWritable}

-- The canonical text of a message that fits the limits is answered by the message, where the text is within the limit of the
-- input. Integers can hold the lengths of its strings, and its content may be of any length.
abbrev pub CanonIsRead : Type 0
CanonIsRead = (L : Bounds) (m : Message) → IsValid m → Fits integers m → Fits L m → IsWithin L.input (length (canon m))
    → IsAnswer L (canon m) (whole m Nothing 0)

-- So is its known-length text, where an integer can hold the length of the content too.
abbrev pub KnownIsRead : Type 0
KnownIsRead = (L : Bounds) (m : Message) → IsValid m → IsWritable m → Fits L m → IsWithin L.input (length (known m))
    → IsAnswer L (known m) (whole m Nothing 0)
