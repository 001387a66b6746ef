-- A section that is being read: what is stored of it, and what may follow it.
use Rattle.std.specs.Prelude.{ℕ, ◌≡◌, ◌≤◌, ◌+◌, ◌/◌, Bool, List, length, Some, unwrap_or}
use Rattle.bh_spec.specs.declared.Form.{Form}
use Rattle.bh_spec.specs.Bounds.{Bounds}
use Rattle.bh_spec.specs.Messages.{Field}
use Rattle.bh_spec.specs.Texts.{Text}
use Rattle.bh_model.specs.declared.field.Place.{Place}
use Rattle.bh_model.specs.Lines.{FieldsView, lines_room, making_room, making_count}
use Rattle.bh_fields.specs.declared.walk.Walk.{Walk}
use Rattle.bh_fields.specs.declared.walk.Phase.{Phase}
use Rattle.bh_fields.specs.Rests.{Spot, LinesLeft, NameBody}
use Rattle.bh_fields.specs.Middle.{line_begun, RestAt}

-- what is stored, but for what is read next
pub record Point : Type 0 where
  pub limits : Bounds
  pub form : Form
  pub place : Place
  pub total : ℕ
  pub used : ℕ
  pub number : List ℕ
  pub flag : Bool
  pub fields : FieldsView

abbrev pub point_of : Walk → Point
point_of w = record {
  limits = w.limits;
  form = w.form;
  place = w.place;
  total = w.total;
  used = w.used;
  number = w.number;
  flag = w.may_be_pseudo;
  fields = w.fields;
}

abbrev pub spot_of : Point → Spot
spot_of p = record { form = p.form; place = p.place; total = p.total; used = p.used; done = p.fields.lines }

-- in a phase, what may follow
abbrev pub RestOf : Phase → Point → Bounds → List Field → Text → Type 0
RestOf phase p L fields t = RestAt phase L (spot_of p) p.number (line_begun p.fields.making) fields t

-- what may follow between two phases: before a line or at the end, and behind a name's length of n, in so many bytes
abbrev pub LinesAt : Point → Bounds → List Field → Text → Type 0
LinesAt p L fields t = LinesLeft L (spot_of p) fields t

abbrev pub NamedAt : Point → ℕ → ℕ → Bounds → List Field → Text → Type 0
NamedAt p n bytes L fields t = NameBody L (spot_of p) fields n bytes t

-- the limits, which are always there
abbrev pub part_of : Bounds → ℕ
part_of L = unwrap_or L.part 0

abbrev pub most_of : Bounds → ℕ
most_of L = unwrap_or L.section 0

-- the limits are in their ranges, and the memory was taken for them
pub record IsSized (p : Point) : Type 0 where
  pub part_is : p.limits.part ≡ Some (part_of p.limits)
  pub part_low : 16 ≤ part_of p.limits
  pub most_is : p.limits.section ≡ Some (most_of p.limits)
  pub most_high : most_of p.limits ≤ 1048576
  pub bytes : p.fields.spare + lines_room p.fields.lines + making_room p.fields.making ≡ most_of p.limits
  pub count : p.fields.free + length p.fields.lines + making_count p.fields.making ≡ most_of p.limits / 3

-- it is the same section's
pub record IsSame (p q : Point) : Type 0 where
  pub limits : q.limits ≡ p.limits
  pub form : q.form ≡ p.form
  pub place : q.place ≡ p.place
