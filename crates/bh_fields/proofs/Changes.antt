-- What is stored of a section, with other numbers, lines and bytes.
use Rattle.std.proofs.Common.{◌≡◌, ℕ, Bool, List, Option, Some, sym, ap, ◌∙◌, unwrap_or}
use Rattle.bh_spec.specs.declared.Form.{Form}
use Rattle.bh_spec.specs.Bounds.{Bounds}
use Rattle.bh_spec.specs.Messages.{Field}
use Rattle.bh_spec.specs.Texts.{Text}
use Rattle.bh_model.specs.declared.field.Place.{Place}
use Rattle.bh_model.specs.Lines.{FieldsView}
use Rattle.bh_fields.specs.declared.walk.Phase.{Phase}
use Rattle.bh_fields.specs.declared.walk.Phase.TheVariants as phases
use Rattle.bh_spec.specs.declared.Judged.{Judged}
use Rattle.bh_spec.specs.declared.Judged.TheVariants as judged
use Rattle.bh_fields.specs.Phases.{part_at}
use Rattle.bh_fields.specs.Bytewise.{Steps, AreSame}
use Rattle.bh_fields.specs.Points.{Point, RestOf, part_of, most_of, IsSized, IsSame}
use Rattle.bh_fields.specs.Stepping.{Moves, IsStep}
use Rattle.bh_fields.proofs.States.{steps_same, same_on}

-- ---- a point with other numbers, lines and bytes

abbrev pub with_number : List ℕ → Point → Point
with_number number p = record {
  limits = p.limits;
  form = p.form;
  place = p.place;
  total = p.total;
  used = p.used;
  number = number;
  flag = p.flag;
  fields = p.fields;
}

abbrev pub with_lines : FieldsView → Point → Point
with_lines fields p = record {
  limits = p.limits;
  form = p.form;
  place = p.place;
  total = p.total;
  used = p.used;
  number = p.number;
  flag = p.flag;
  fields = fields;
}

abbrev pub of_total : ℕ → Point → Point
of_total total p = record {
  limits = p.limits;
  form = p.form;
  place = p.place;
  total = total;
  used = p.used;
  number = p.number;
  flag = p.flag;
  fields = p.fields;
}

abbrev pub of_used : ℕ → Point → Point
of_used used p = record {
  limits = p.limits;
  form = p.form;
  place = p.place;
  total = p.total;
  used = used;
  number = p.number;
  flag = p.flag;
  fields = p.fields;
}

-- what was made for a section is made for it at each of its points
pub sized_at : (p : Point) (form : Form) (place : Place) (total used : ℕ) (number : List ℕ) (flag : Bool) → IsSized p
    → IsSized (record { limits = p.limits; form = form; place = place; total = total; used = used; number = number; flag = flag; fields = p.fields })
sized_at p form place total used number flag z = record {
  part_is = z.part_is;
  part_low = z.part_low;
  most_is = z.most_is;
  most_high = z.most_high;
  bytes = z.bytes;
  count = z.count;
}

pub sized_number : (number : List ℕ) (p : Point) → IsSized p → IsSized (with_number number p)
sized_number number p z = sized_at p p.form p.place p.total p.used number p.flag z

pub sized_used : (used : ℕ) (p : Point) → IsSized p → IsSized (of_used used p)
sized_used used p z = sized_at p p.form p.place p.total used p.number p.flag z

-- a move behind a byte that was taken
pub moved : (judged : Judged) (R : Bounds → List Field → Text → Type 0) (now : Phase) (p q : Point) (byte : ℕ) (phase : Phase) (r : Point) → IsSame p q
    → Steps (RestOf now p) R (part_at now) byte → Moves judged R q phase r → IsStep judged now p byte phase r
moved judged.More R now p q byte phase r s e m = (
  m.0,
  m.1,
  record { limits = m.2.limits ∙ s.limits; form = m.2.form ∙ s.form; place = m.2.place ∙ s.place },
  steps_same (RestOf now p) R (RestOf phase r) (part_at now) byte e m.3,
)
moved judged.Whole R now p q byte phase r s e m = (
  m.0,
  m.1,
  record { limits = m.2.limits ∙ s.limits; form = m.2.form ∙ s.form; place = m.2.place ∙ s.place },
  steps_same (RestOf now p) R (RestOf phases.Whole r) (part_at now) byte e m.3,
)
moved judged.Limit R now p q byte phase r s e m = absurd m
moved judged.Dead R now p q byte phase r s e m = absurd m

-- a move behind one that takes no byte
pub moved_on : (judged : Judged) (R S : Bounds → List Field → Text → Type 0) (p q : Point) (phase : Phase) (r : Point) → IsSame p q
    → AreSame R S → Moves judged S q phase r → Moves judged R p phase r
moved_on judged.More R S p q phase r s e m = (
  m.0,
  m.1,
  record { limits = m.2.limits ∙ s.limits; form = m.2.form ∙ s.form; place = m.2.place ∙ s.place },
  same_on R S (RestOf phase r) e m.3,
)
moved_on judged.Whole R S p q phase r s e m = (
  m.0,
  m.1,
  record { limits = m.2.limits ∙ s.limits; form = m.2.form ∙ s.form; place = m.2.place ∙ s.place },
  same_on R S (RestOf phases.Whole r) e m.3,
)
moved_on judged.Limit R S p q phase r s e m = absurd m
moved_on judged.Dead R S p q phase r s e m = absurd m

pub most_is : (L : Bounds) (most : ℕ) → L.section ≡ Some most → most ≡ most_of L
most_is L most e = sym (ap (λ (o : Option ℕ). unwrap_or o 0) e)

pub part_is : (L : Bounds) (part : ℕ) → L.part ≡ Some part → part ≡ part_of L
part_is L part e = sym (ap (λ (o : Option ℕ). unwrap_or o 0) e)
