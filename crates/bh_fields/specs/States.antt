-- What is known of a section in each phase of its reading: of the lines so far, of what is begun, and of the room that is left.
use Rattle.std.specs.Prelude.{ℕ, ◌≡◌, ◌<◌, ◌≤◌, ◌+◌, ◌-◌, ◌*◌, ◌↔◌, Bool, List, [], length, Option, Some, None, IsTrue}
use Rattle.bh_spec.specs.declared.Form.{Form}
use Rattle.bh_spec.specs.declared.Form.TheVariants.{Known, Indeterminate}
use Rattle.bh_spec.specs.Integers.{IsAllowed, SomeBegins}
use Rattle.bh_spec.specs.Bounds.{Bounds, IsWithin}
use Rattle.bh_spec.specs.Messages.{Field}
use Rattle.bh_varint.specs.Step.{IsUnfinished}
use Rattle.bh_model.specs.Rules.{IsNameBehind}
use Rattle.bh_fields.specs.declared.walk.Phase.{Phase}
use Rattle.bh_fields.specs.declared.walk.Phase.TheVariants as phases
use Rattle.bh_fields.specs.Sets.{lines_set, names_set, values_set}
use Rattle.bh_fields.specs.Rests.{AreGood, CanEnd, HasMore}
use Rattle.bh_fields.specs.Names.{MayBePseudo, NameGood, ValueGood}
use Rattle.bh_fields.specs.Points.{Point, part_of, most_of}

-- the bytes that the lines may have are those of the length, within the limit, or those of the limit
abbrev pub IsBounded : Bounds → Form → ℕ → Type 0
IsBounded L Known total = IsWithin L.section total
IsBounded L Indeterminate total = L.section ≡ Some total

-- the bytes of a known length are all there
abbrev pub IsFull : Form → ℕ → ℕ → Type 0
IsFull Known total used = used ≡ total
IsFull Indeterminate total used = ⊥

-- a section's length is read
pub record LengthState (p : Point) : Type 0 where
  pub known : p.form ≡ Known
  pub unused : p.used ≡ 0
  pub empty : p.fields.lines ≡ []
  pub idle : p.fields.making ≡ None
  pub flag : IsTrue p.flag ↔ MayBePseudo p.place p.fields.lines []
  pub good : AreGood p.limits p.place p.fields.lines
  pub live : SomeBegins (lines_set (most_of p.limits)) p.number
  pub unfinished : IsUnfinished p.number

-- what stands between lines
pub record Between (p : Point) : Type 0 where
  -- no line is begun; the lines so far
  pub idle : p.fields.making ≡ None
  pub flag : IsTrue p.flag ↔ MayBePseudo p.place p.fields.lines []
  pub good : AreGood p.limits p.place p.fields.lines
  -- the bytes that are left to the section, and the memory for them
  pub bounded : IsBounded p.limits p.form p.total
  pub room : p.used ≤ p.total
  pub spare : p.total ≤ p.fields.spare + p.used
  pub free : p.fields.spare ≤ 3 * p.fields.free + 2

-- behind a line, or behind the section's length
pub record NextState (p : Point) : Type 0 where
  pub between : Between p
  pub can_end : CanEnd p.limits p.form p.total p.used
  pub number : p.number ≡ []

-- a name's length is read, or the end
pub record LineState (p : Point) : Type 0 where
  pub between : Between p
  pub more : HasMore p.form p.total p.used
  pub live : SomeBegins (names_set p.form (part_of p.limits) (Some (p.total - p.used))) p.number
  pub unfinished : IsUnfinished p.number

-- behind a name's length of so many bytes, or the end
pub record NamedState (p : Point) (n bytes : ℕ) : Type 0 where
  pub between : Between p
  pub allowed : IsAllowed (names_set p.form (part_of p.limits) (Some (p.total - p.used))) bytes n
  pub number : p.number ≡ []

-- the line that is being made
abbrev pub making_of : List ℕ → List ℕ → Option Field
making_of name value = Some (record { name = name; value = value })

-- a name is read, of which so many bytes are missing
pub record NameState (p : Point) (missing : ℕ) : Type 0 where
  -- what came of it, and may come
  pub name : List ℕ
  pub making : p.fields.making ≡ making_of name []
  pub flag : IsTrue p.flag ↔ MayBePseudo p.place p.fields.lines name
  pub kind : NameGood p.flag name missing
  pub within : IsWithin p.limits.part (length name + missing)
  pub some : 0 < missing
  -- the lines before it
  pub good : AreGood p.limits p.place p.fields.lines
  -- the bytes that are left to the section, and the memory for them
  pub bounded : IsBounded p.limits p.form p.total
  pub room : p.used < p.total
  pub spare : missing + p.total ≤ p.fields.spare + 1 + p.used
  pub free : p.fields.spare + length name ≤ 3 * p.fields.free + 3
  pub number : p.number ≡ []

-- what stands behind a whole name
pub record Valued (p : Point) (name value : List ℕ) : Type 0 where
  -- the line: its name is whole
  pub making : p.fields.making ≡ making_of name value
  pub named : 0 < length name
  pub flag : IsTrue p.flag ↔ MayBePseudo p.place p.fields.lines name
  pub behind : IsNameBehind p.place p.fields.lines name
  pub within : IsWithin p.limits.part (length name)
  -- the lines before it
  pub good : AreGood p.limits p.place p.fields.lines
  -- the bytes that are left to the section, and the memory for them
  pub bounded : IsBounded p.limits p.form p.total
  pub room : p.used ≤ p.total
  pub free : p.fields.spare ≤ 3 * p.fields.free + 2

-- a value's length is read
pub record ValueLengthState (p : Point) : Type 0 where
  pub name : List ℕ
  pub valued : Valued p name []
  pub live : SomeBegins (values_set p.form (part_of p.limits) (Some (p.total - p.used))) p.number
  pub unfinished : IsUnfinished p.number
  pub spare : p.total ≤ p.fields.spare + 1 + p.used

-- inside a value, of which so many bytes are missing, if any
pub record InValue (p : Point) (value : List ℕ) (missing : ℕ) : Type 0 where
  pub name : List ℕ
  pub valued : Valued p name value
  pub kind : ValueGood value missing
  pub within : IsWithin p.limits.part (length value + missing)
  pub can_end : CanEnd p.limits p.form p.total p.used
  pub spare : missing + p.total ≤ p.fields.spare + p.used
  pub number : p.number ≡ []

-- a value is read; the flag says whether none of it came
pub record ValueState (p : Point) (missing : ℕ) (first : Bool) : Type 0 where
  pub value : List ℕ
  pub inside : InValue p value missing
  pub some : 0 < missing
  pub first_is : IsTrue first ↔ (value ≡ [])

-- the section is whole
pub record WholeState (p : Point) : Type 0 where
  pub idle : p.fields.making ≡ None
  pub good : AreGood p.limits p.place p.fields.lines
  pub within : IsWithin p.limits.section p.used

-- what is known where a byte may be read
abbrev pub ReadingAt : Phase → Point → Type 0
ReadingAt phases.Idle p = ⊥
ReadingAt phases.SectionLength p = LengthState p
ReadingAt phases.NameLength p = LineState p
ReadingAt (phases.Name missing) p = NameState p missing
ReadingAt phases.ValueLength p = ValueLengthState p
ReadingAt (phases.Value missing first) p = ValueState p missing first
ReadingAt phases.Whole p = ⊥
ReadingAt phases.Refused p = ⊥
