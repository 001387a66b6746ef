-- Which bytes begin a number, and what a line takes of a section.
use Rattle.std.specs.Prelude.{ℕ, ◌≡◌, ◌<◌, ◌+◌, ◌-◌, ◌^◌, ◌↔◌, ◌≤◌, false, None, List, [], ◌∷◌, ◌++◌, length, All}
use Rattle.bh_spec.specs.Bytes.{AreBytes}
use Rattle.bh_spec.specs.declared.Allowed.{Allowed}
use Rattle.bh_spec.specs.Integers.{byte_count, SomeBegins}
use Rattle.bh_spec.specs.Intervals.{IsAlive, least_begun, missing, width_of}
use Rattle.bh_spec.specs.Bounds.{Bounds, IsWithin}
use Rattle.bh_spec.specs.Messages.{Field, AreHeaders}
use Rattle.bh_spec.specs.Texts.{Text, bytes_of, AreEach}
use Rattle.bh_spec.specs.Sections.{IsLine}
use Rattle.bh_spec.specs.Viable.{IsViable}

-- Some allowed number begins with the bytes exactly where one in the interval that they leave is allowed.
abbrev pub AliveByInterval : Type 0
AliveByInterval = (set : Allowed) (byte : ℕ) (rest : List ℕ) → AreBytes (byte ∷ rest) → length rest < byte_count (width_of byte)
    → SomeBegins set (byte ∷ rest)
    ↔ IsAlive set (byte_count (width_of byte)) (least_begun byte rest) (least_begun byte rest + 256 ^ missing byte rest - 1)

-- As long as the bytes lie within the framing number, they are viable exactly where they begin a number from 0 to 3: in
-- each form some request and some response have no part of more than 5 bytes.
abbrev pub FramingAlive : Type 0
FramingAlive = (L : Bounds) (byte : ℕ) (rest : List ℕ) → IsWithin L.part 5 → length rest < byte_count (width_of byte)
    → IsViable L (byte ∷ rest) ↔ SomeBegins (record { zero = false; span = record { low = 0; high = 3 }; rest = None }) (byte ∷ rest)

-- In a known-length section, behind the lines of the fields done and with so many bytes left: the bytes are lines that make
-- these fields of it.
pub record SectionRest (L : Bounds) (done : List Field) (left : ℕ) (fields : List Field) (bytes : List ℕ) : Type 0 where
  pub more : List Field
  pub text : Text
  pub whole : fields ≡ done ++ more
  pub lines : AreEach IsLine more text
  pub fill : length text ≡ left
  pub spelled : bytes_of text ≡ bytes
  pub valid : AreHeaders fields
  pub names : All (λ field. IsWithin L.part (length field.name)) fields
  pub values : All (λ field. IsWithin L.part (length field.value)) fields

-- One line takes its bytes and adds its field.
abbrev pub LineStep : Type 0
LineStep = (L : Bounds) (done : List Field) (left : ℕ) (fields : List Field) (field : Field) (t : Text) (after : List ℕ) → IsLine field t
    → SectionRest L done left fields (bytes_of t ++ after)
    ↔ ((length t ≤ left) × SectionRest L (done ++ (field ∷ [])) (left - length t) fields after)
