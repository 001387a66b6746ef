-- A section in the middle: what a reader stores of it, and what completes it from there.
use Rattle.std.specs.Prelude.{ℕ, List, [], ◌++◌, Option, Some, None, unwrap_or}
use Rattle.bh_spec.specs.declared.Form.{Form}
use Rattle.bh_spec.specs.declared.Form.TheVariants.{Known, Indeterminate}
use Rattle.bh_spec.specs.declared.Part.TheVariants as parts
use Rattle.bh_spec.specs.Bounds.{Bounds}
use Rattle.bh_spec.specs.Messages.{Field}
use Rattle.bh_spec.specs.Texts.{Text, mark}
use Rattle.bh_spec.specs.Readings.{Stage, idle, reading, whole, refused}
use Rattle.bh_model.specs.declared.field.Place.{Place}
use Rattle.bh_model.specs.declared.field.Place.TheVariants as place
use Rattle.bh_fields.specs.declared.walk.Phase.{Phase}
use Rattle.bh_fields.specs.declared.walk.Phase.TheVariants as phases
use Rattle.bh_varint.specs.Numbers.{NumberThen}
use Rattle.bh_fields.specs.Rests.{Spot, IsAtEnd, ValueLeft, ValueBody, NameLeft, NameBody, LengthBody}

-- the line that is being made, as far as it came
abbrev pub line_begun : Option Field → Field
line_begun None = record { name = []; value = [] }
line_begun (Some line) = line

-- In each phase the text t completes the section, whose fields are then these. `s` says where it stands, `number` are the bytes of
-- a number that was begun, and `line` is the line that was.
abbrev pub RestAt : Phase → Bounds → Spot → List ℕ → Field → List Field → Text → Type 0
RestAt phases.Idle L s number line fields t = ⊥
RestAt phases.SectionLength L s number line fields t =
    NumberThen parts.SectionLength (LengthBody L s fields) (mark parts.SectionLength number ++ t)
RestAt phases.NameLength L s number line fields t = NumberThen parts.NameLength (NameBody L s fields) (mark parts.NameLength number ++ t)
RestAt (phases.Name missing) L s number line fields t = NameLeft L s line.name missing fields t
RestAt phases.ValueLength L s number line fields t =
    NumberThen parts.ValueLength (ValueBody L s line.name fields) (mark parts.ValueLength number ++ t)
RestAt (phases.Value missing first) L s number line fields t = ValueLeft L s line.name line.value missing fields t
RestAt phases.Whole L s number line fields t = IsAtEnd L s fields t
RestAt phases.Refused L s number line fields t = ⊥

-- A reader: its limits, what it reads, and of the section that it reads a phase with counters and what it will hand out. `total` and
-- `used` count the bytes of the lines: those that there are or may be, and those of them that came or whose length did.
pub record SectionView : Type 0 where
  pub limits : Bounds
  pub form : Form
  pub place : Place
  pub stage : Stage
  pub phase : Phase
  pub total : ℕ
  pub used : ℕ
  pub number : List ℕ
  pub lines : List Field
  pub line : Field

-- The text completes the section from what is stored, within the limits L, and the section has these fields.
abbrev pub Rest : Bounds → SectionView → List Field → Text → Type 0
Rest L v = RestAt v.phase L (record { form = v.form; place = v.place; total = v.total; used = v.used; done = v.lines }) v.number v.line

abbrev pub stage_of : Phase → Stage
stage_of phases.Idle = idle
stage_of phases.SectionLength = reading
stage_of phases.NameLength = reading
stage_of (phases.Name missing) = reading
stage_of phases.ValueLength = reading
stage_of (phases.Value missing first) = reading
stage_of phases.Whole = whole
stage_of phases.Refused = refused

-- what is read first
abbrev pub first_of : Form → Phase
first_of Known = phases.SectionLength
first_of Indeterminate = phases.NameLength

-- before the first section
abbrev pub new_view : Bounds → SectionView
new_view L = record {
  limits = L;
  form = Known;
  place = place.Header;
  stage = idle;
  phase = phases.Idle;
  total = 0;
  used = 0;
  number = [];
  lines = [];
  line = record { name = []; value = [] };
}

-- at the beginning of a section
abbrev pub begun_view : Form → Place → SectionView → SectionView
begun_view form at v = record {
  limits = v.limits;
  form = form;
  place = at;
  stage = reading;
  phase = first_of form;
  total = unwrap_or v.limits.section 0;
  used = 0;
  number = [];
  lines = [];
  line = record { name = []; value = [] };
}
