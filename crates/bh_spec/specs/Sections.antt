-- Field lines and field sections (RFC 9292, section 3.6).
use Rattle.std.specs.Prelude.{ℕ, ◌≡◌, List, length, All}
use Rattle.bh_spec.specs.Bounds.{Bounds, IsWithin}
use Rattle.bh_spec.specs.Bytes.{lower}
use Rattle.bh_spec.specs.Messages.{Field}
use Rattle.bh_spec.specs.Texts.{Text, IsNumber, ◌then◌, AreEach, IsString}
use Rattle.bh_spec.specs.declared.Part.TheVariants as parts
use Rattle.bh_spec.specs.declared.Form.{Form}
use Rattle.bh_spec.specs.declared.Form.TheVariants.{Known, Indeterminate}

-- A field line: a name length and the name in any case of letters, a value length and the value.
abbrev pub IsLine : Field → Text → Type 0
IsLine field t = (name : List ℕ) × (lower name ≡ field.name)
    × (IsString parts.NameLength parts.Name name then IsString parts.ValueLength parts.Value field.value) t

-- A line for each field, in order.
abbrev pub IsLines : List Field → Text → Type 0
IsLines fields t = AreEach IsLine fields t

-- The lines of a section, within the limits.
pub record IsLinesWithin (L : Bounds) (fields : List Field) (t : Text) : Type 0 where
  pub lines : IsLines fields t
  pub total : IsWithin L.section (length t)
  pub names : All (λ field. IsWithin L.part (length field.name)) fields
  pub values : All (λ field. IsWithin L.part (length field.value)) fields

-- A field section: the number of bytes of its lines and the lines, or the lines and an integer 0.
abbrev pub IsSection : Bounds → Form → List Field → Text → Type 0
IsSection L Known fields t = (lines : Text) × IsLinesWithin L fields lines
    × (IsNumber parts.SectionLength (length lines) then λ rest. rest ≡ lines) t
IsSection L Indeterminate fields t = (IsLinesWithin L fields then IsNumber parts.NameLength 0) t
