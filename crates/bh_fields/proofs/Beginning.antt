-- Before the first byte of a section.
use Rattle.std.proofs.Common.{◌≡◌, ◌≤◌, ◌+◌, ◌-◌, ◌↔◌, arith, ℕ, Bool, IsTrue, List, [], ◌++◌, length, Some, None, refl, sym, ap, ap₂, subst, ◌∙◌, inl}
use Rattle.std.proofs.lemmas.List.Elements.{All-nil}
use Rattle.bh_spec.specs.declared.Form.{Form}
use Rattle.bh_spec.specs.declared.Form.TheVariants.{Known, Indeterminate}
use Rattle.bh_spec.specs.declared.Part.TheVariants as parts
use Rattle.bh_spec.specs.Integers.{vi, SomeBegins}
use Rattle.bh_spec.specs.Bounds.{Bounds, IsWithin, no_bounds}
use Rattle.bh_spec.specs.Messages.{Field, IsPseudo, IsPseudoField, IsRegularField}
use Rattle.bh_spec.specs.Texts.{Text, mark, IsNumber, AreEach}
use Rattle.bh_spec.specs.Sections.{IsLine}
use Rattle.bh_varint.specs.Step.{IsUnfinished}
use Rattle.bh_varint.proofs.Reading.{unfinished_nil}
use Rattle.bh_model.specs.declared.field.Place.{Place}
use Rattle.bh_model.specs.declared.field.Place.TheVariants.{Header, Trailer}
use Rattle.bh_model.specs.Lines.{FieldsView, lines_room, making_room, making_count}
use Rattle.bh_model.specs.Rules.{AreLines}
use Rattle.bh_fields.specs.declared.walk.Phase.{Phase}
use Rattle.bh_fields.specs.declared.walk.Phase.TheVariants as phases
use Rattle.bh_spec.specs.declared.Judged.TheVariants as judged
use Rattle.bh_fields.specs.Sets.{lines_set, names_set}
use Rattle.bh_spec.specs.Pieces.{IsNext}
use Rattle.bh_spec.proofs.Residuals.{residual_same}
use Rattle.bh_fields.specs.Sections.{SectionOf}
use Rattle.bh_varint.specs.Numbers.{NumberThen}
use Rattle.bh_fields.specs.Rests.{Spot, AreGood, LinesLeft, LengthBody}
use Rattle.bh_fields.specs.Bytewise.{Steps, HasFirst, IsLeft}
use Rattle.bh_fields.specs.Names.{MayBePseudo}
use Rattle.bh_fields.specs.Phases.{part_at}
use Rattle.bh_fields.specs.Points.{Point, RestOf, part_of, most_of, IsSized, IsSame}
use Rattle.bh_fields.specs.Stepping.{IsStep}
use Rattle.bh_fields.specs.States.{ReadingAt, WholeState}
use Rattle.bh_spec.specs.Readings.{reading}
use Rattle.bh_fields.specs.Middle.{stage_of, first_of, line_begun, RestAt, Rest}
use Rattle.bh_fields.specs.Views.{view_at, IsSoundAt, Takes}
use Rattle.bh_fields.specs.Readers.{IsWanted}
use Rattle.bh_fields.proofs.Lines.{lines_to_number, number_to_lines}
use Rattle.bh_fields.proofs.Counting.{lengths_begin, names_begin}
use Rattle.bh_fields.proofs.Tracking.{steps_leave, left_step, none_goes_on, some_goes_on}
use Rattle.bh_fields.proofs.States.{first_at}

abbrev pub start_spot : Form → Place → ℕ → Spot
start_spot form place total = record { form = form; place = place; total = total; used = 0; done = [] }

pub known_to : (L : Bounds) (place : Place) (total : ℕ) (fields : List Field) (u : Text) → SectionOf L Known place fields u
    → NumberThen parts.SectionLength (LengthBody L (start_spot Known place total) fields) u
known_to L place total fields u h =
    let lines = h.0.0 in
    let within = h.0.1 in
    let n = h.0.2 in
    record {
      number = length lines;
      width = n.2.width;
      behind = lines;
      fits = n.2.fits;
      spelled = n.4 ∙ ap₂ (λ (x y : Text). x ++ y) n.2.spelled n.3;
      body = record {
        more = fields;
        whole = refl;
        good = record { valid = h.1; names = within.names; values = within.values };
        ends = (within.lines, omega arith, within.total);
      };
    }

pub known_from : (L : Bounds) (place : Place) (total : ℕ) (fields : List Field) (u : Text) → NumberThen parts.SectionLength (LengthBody L (start_spot Known place total) fields) u
    → SectionOf L Known place fields u
known_from L place total fields u h =
    let b = h.body in
    let long : h.number ≡ length h.behind = omega (arith, b.ends.1) in
    let number = mark parts.SectionLength (vi h.number h.width) in (
      (
        h.behind,
        record {
          lines = subst (λ (x : List Field). AreEach IsLine x h.behind) (sym b.whole) b.ends.0;
          total = subst (IsWithin L.section) long b.ends.2;
          names = b.good.names;
          values = b.good.values;
        },
        (number, h.behind, subst (λ (k : ℕ). IsNumber parts.SectionLength k number) long (record { width = h.width; fits = h.fits; spelled = refl }), refl, h.spelled),
      ),
      b.good.valid,
    )

indeterminate_to : (L : Bounds) (place : Place) (total : ℕ) (fields : List Field) (u : Text) → SectionOf L Indeterminate place fields u
    → LinesLeft L (start_spot Indeterminate place total) fields u
indeterminate_to L place total fields u h =
    let t = h.0 in
    record {
      more = fields;
      whole = refl;
      good = record { valid = h.1; names = t.2.names; values = t.2.values };
      ends = (t.0, t.1, t.2.lines, t.3, t.4, subst (IsWithin L.section) (omega arith) t.2.total);
    }

indeterminate_from : (L : Bounds) (place : Place) (total : ℕ) (fields : List Field) (u : Text) → LinesLeft L (start_spot Indeterminate place total) fields u
    → SectionOf L Indeterminate place fields u
indeterminate_from L place total fields u h =
    let e = h.ends in (
      (
        e.0,
        e.1,
        record {
          lines = subst (λ (x : List Field). AreEach IsLine x e.0) (sym h.whole) e.2;
          total = subst (IsWithin L.section) (omega arith) e.5;
          names = h.good.names;
          values = h.good.values;
        },
        e.3,
        e.4,
      ),
      h.good.valid,
    )

-- at the beginning a section is left, within any limits
pub start_to : (L : Bounds) (form : Form) (place : Place) (total : ℕ) (line : Field) (fields : List Field) (t : Text) → SectionOf L form place fields t
    → RestAt (first_of form) L (start_spot form place total) [] line fields t
start_to L Known place total line fields t h = known_to L place total fields t h
start_to L Indeterminate place total line fields t h = lines_to_number L (start_spot Indeterminate place total) fields t tt (indeterminate_to L place total fields t h)

pub start_from : (L : Bounds) (form : Form) (place : Place) (total : ℕ) (line : Field) (fields : List Field) (t : Text)
    → RestAt (first_of form) L (start_spot form place total) [] line fields t → SectionOf L form place fields t
start_from L Known place total line fields t h = known_from L place total fields t h
start_from L Indeterminate place total line fields t h =
    indeterminate_from L place total fields t (number_to_lines L (start_spot Indeterminate place total) fields t h)

start_left : (form : Form) (place : Place) (total : ℕ) (line : Field) → IsLeft form place (λ L fields t. RestAt (first_of form) L (start_spot form place total) [] line fields t)
start_left form place total line = (
  [],
  λ L. residual_same (SectionOf L form place) (λ fields. fields) (λ fields t. RestAt (first_of form) L (start_spot form place total) [] line fields t)
      (λ fields t h. (fields, refl, start_to L form place total line fields t h)) (λ fields t h. start_from L form place total line fields t h),
)

none_valid : (place : Place) → AreLines place []
none_valid Header = ([], [], refl, All-nil IsPseudoField, All-nil IsRegularField)
none_valid Trailer = All-nil IsRegularField

pub none_good : (L : Bounds) (place : Place) → AreGood L place []
none_good L place = record {
  valid = none_valid place;
  names = All-nil (λ field. IsWithin L.part (length field.name));
  values = All-nil (λ field. IsWithin L.part (length field.value));
}

flag_begun : (place : Place) (flag : Bool) → IsTrue flag ↔ (place ≡ Header) → IsTrue flag ↔ MayBePseudo place [] []
flag_begun place flag f = (λ y. (f.0 y, All-nil (λ (line : Field). IsPseudo line.name), tt), λ m. f.1 m.0)

-- the memory is as it was, and empty
pub sized_begun : (p q : Point) → IsSized p → q.limits ≡ p.limits → q.fields.lines ≡ [] → q.fields.making ≡ None
    → q.fields.spare ≡ p.fields.spare + lines_room p.fields.lines + making_room p.fields.making
    → q.fields.free ≡ p.fields.free + length p.fields.lines + making_count p.fields.making → IsSized q
sized_begun p q z el en em es ef = record {
  part_is = subst (λ (L : Bounds). L.part ≡ Some (part_of L)) (sym el) z.part_is;
  part_low = subst (λ (L : Bounds). 16 ≤ part_of L) (sym el) z.part_low;
  most_is = subst (λ (L : Bounds). L.section ≡ Some (most_of L)) (sym el) z.most_is;
  most_high = subst (λ (L : Bounds). most_of L ≤ 1048576) (sym el) z.most_high;
  bytes = rw (en, em) (omega (arith, es, z.bytes, ap most_of el));
  count = rw (en, em) (omega (arith, ef, z.count, ap most_of el));
}

abbrev pub begun_point : Bounds → Form → Place → ℕ → List ℕ → Bool → FieldsView → Point
begun_point L form place total number flag fields = record {
  limits = L;
  form = form;
  place = place;
  total = total;
  used = 0;
  number = number;
  flag = flag;
  fields = fields;
}

pub known_begun : (L : Bounds) (form : Form) (place : Place) (total : ℕ) (number : List ℕ) (flag : Bool) (fields : FieldsView)
    → IsSized (begun_point L form place total number flag fields) → total ≡ most_of L → number ≡ [] → fields.lines ≡ [] → fields.making ≡ None
    → IsTrue flag ↔ (place ≡ Header) → ReadingAt (first_of form) (begun_point L form place total number flag fields)
known_begun L Known place total number flag fields z et en el em f = record {
  known = refl;
  unused = refl;
  empty = el;
  idle = em;
  flag = subst (λ (x : List Field). IsTrue flag ↔ MayBePseudo place x []) (sym el) (flag_begun place flag f);
  good = subst (AreGood L place) (sym el) (none_good L place);
  live = subst (SomeBegins (lines_set (most_of L))) (sym en) (lengths_begin (most_of L));
  unfinished = subst IsUnfinished (sym en) unfinished_nil;
}
known_begun L Indeterminate place total number flag fields z et en el em f = record {
  between = record {
    idle = em;
    flag = subst (λ (x : List Field). IsTrue flag ↔ MayBePseudo place x []) (sym el) (flag_begun place flag f);
    good = subst (AreGood L place) (sym el) (none_good L place);
    bounded = z.most_is ∙ ap (λ (n : ℕ). Some n) (sym et);
    room = omega arith;
    spare = omega (arith, et, rw (el, em) at z.bytes);
    free = omega (arith, rw (el, em) at z.bytes, rw (el, em) at z.count);
  };
  more = tt;
  live = subst (SomeBegins (names_set Indeterminate (part_of L) (Some (total - 0)))) (sym en) (names_begin Indeterminate (part_of L) (Some (total - 0)) (omega (arith, z.part_low)) (inl refl));
  unfinished = subst IsUnfinished (sym en) unfinished_nil;
}

begun_left : (L : Bounds) (form : Form) (place : Place) (total : ℕ) (number : List ℕ) (flag : Bool) (fields : FieldsView) → number ≡ [] → fields.lines ≡ []
    → IsLeft form place (RestOf (first_of form) (begun_point L form place total number flag fields))
begun_left L form place total number flag fields en el =
    subst (λ (x : List ℕ). IsLeft form place (λ K fs t. RestAt (first_of form) K (record { form = form; place = place; total = total; used = 0; done = fields.lines }) x (line_begun fields.making) fs t)) (sym en)
    (subst (λ (x : List Field). IsLeft form place (λ K fs t. RestAt (first_of form) K (record { form = form; place = place; total = total; used = 0; done = x }) [] (line_begun fields.making) fs t)) (sym el)
    (start_left form place total (line_begun fields.making)))

pub sound_begun : (L : Bounds) (form : Form) (place : Place) (total : ℕ) (number : List ℕ) (flag : Bool) (fields : FieldsView)
    → IsSized (begun_point L form place total number flag fields) → total ≡ most_of L → number ≡ [] → fields.lines ≡ [] → fields.making ≡ None
    → IsTrue flag ↔ (place ≡ Header) → IsSoundAt (first_of form) (begun_point L form place total number flag fields)
sound_begun L form place total number flag fields z et en el em f = record {
  sized = z;
  known = λ e. known_begun L form place total number flag fields z et en el em f;
  idle = λ e. em;
  left = λ e. begun_left L form place total number flag fields en el;
}

-- ---- a reader in the middle

reading_stage : (phase : Phase) (p : Point) → ReadingAt phase p → stage_of phase ≡ reading
reading_stage phases.Idle p h = absurd h
reading_stage phases.SectionLength p h = refl
reading_stage phases.NameLength p h = refl
reading_stage (phases.Name missing) p h = refl
reading_stage phases.ValueLength p h = refl
reading_stage (phases.Value missing first) p h = refl
reading_stage phases.Whole p h = absurd h
reading_stage phases.Refused p h = absurd h

first_of_sound : (phase : Phase) (p : Point) → IsSoundAt phase p → stage_of phase ≡ reading → HasFirst (RestOf phase p) p.limits (part_at phase)
first_of_sound phase p s e = first_at phase p s.sized (s.known e)

pub reader_next : (phase : Phase) (p : Point) → IsSoundAt phase p → stage_of phase ≡ reading → IsNext (IsWanted (view_at phase p)) [] (part_at phase)
reader_next phase p s e =
    let f = first_of_sound phase p s e in
    record { before = []; byte = f.0; after = f.1.after; spelled = (f.1.fields, f.1.rest); begins = refl }

-- ---- what a byte makes of it

left_same : (p q : Point) (phase : Phase) → IsSame p q → IsLeft p.form p.place (RestOf phase q) → IsLeft q.form q.place (RestOf phase q)
left_same p q phase s h =
    subst (λ (f : Form). IsLeft f q.place (RestOf phase q)) (sym s.form) (subst (λ (x : Place). IsLeft p.form x (RestOf phase q)) (sym s.place) h)

pub take_more : (now : Phase) (p : Point) (byte : ℕ) (phase : Phase) (q : Point) → IsSoundAt now p → stage_of now ≡ reading → IsStep judged.More now p byte phase q
    → IsSoundAt phase q × Takes judged.More (view_at now p) byte (view_at phase q)
take_more now p byte phase q s e h =
    let first = first_of_sound now p s e in
    let stage = reading_stage phase q h.1 in (
      record {
        sized = h.0;
        known = λ r. h.1;
        idle = λ w. absurd (cc (stage, w));
        left = λ r. left_same p q phase h.2 (left_step p.form p.place (RestOf now p) (RestOf phase q) (s.left e) p.limits (part_at now) byte first h.3);
      },
      (
        record { limits = h.2.limits; form = h.2.form; place = h.2.place },
        stage,
        λ L. steps_leave p.form p.place (RestOf now p) (RestOf phase q) (s.left e) p.limits (part_at now) byte first h.3 L,
      ),
    )

whole_rest : (q : Point) → WholeState q → Rest q.limits (view_at phases.Whole q) q.fields.lines []
whole_rest q h = record { nothing = refl; whole = refl; good = h.good; within = h.within }

whole_taken : (now : Phase) (p : Point) (byte : ℕ) (q : Point) → IsSoundAt now p → stage_of now ≡ reading → IsSized q → WholeState q → IsSame p q
    → Steps (RestOf now p) (RestOf phases.Whole q) (part_at now) byte → IsSoundAt phases.Whole q × Takes judged.Whole (view_at now p) byte (view_at phases.Whole q)
whole_taken now p byte q s e sized whole same steps = (
  record { sized = sized; known = λ r. absurd cc; idle = λ w. whole.idle; left = λ r. absurd cc },
  (
    record { limits = same.limits; form = same.form; place = same.place },
    refl,
    λ L. steps_leave p.form p.place (RestOf now p) (RestOf phases.Whole q) (s.left e) p.limits (part_at now) byte (first_of_sound now p s e) steps L,
    whole_rest q whole,
  ),
)

pub take_whole : (now : Phase) (p : Point) (byte : ℕ) (phase : Phase) (q : Point) → IsSoundAt now p → stage_of now ≡ reading → IsStep judged.Whole now p byte phase q
    → IsSoundAt phase q × Takes judged.Whole (view_at now p) byte (view_at phase q)
take_whole now p byte phase q s e h =
    subst (λ (x : Phase). IsSoundAt x q × Takes judged.Whole (view_at now p) byte (view_at x q)) (sym h.1.0)
    (whole_taken now p byte q s e h.0 h.1.1 h.2 h.3)

refused_sound : (q : Point) → IsSized q → IsSoundAt phases.Refused q
refused_sound q z = record { sized = z; known = λ r. absurd cc; idle = λ w. absurd cc; left = λ r. absurd cc }

pub take_limit : (now : Phase) (p : Point) (byte : ℕ) (phase : Phase) (q : Point) → IsSoundAt now p → stage_of now ≡ reading → IsStep judged.Limit now p byte phase q
    → IsSoundAt phases.Refused q × Takes judged.Limit (view_at now p) byte (view_at phases.Refused q)
take_limit now p byte phase q s e h = (
  refused_sound q h.0,
  (
    record { limits = h.1.limits; form = h.1.form; place = h.1.place },
    refl,
    none_goes_on p.form p.place (RestOf now p) (s.left e) p.limits (part_at now) byte (first_of_sound now p s e) p.limits h.2,
    some_goes_on (RestOf now p) no_bounds (part_at now) byte h.3,
  ),
)

pub take_dead : (now : Phase) (p : Point) (byte : ℕ) (phase : Phase) (q : Point) → IsSoundAt now p → stage_of now ≡ reading → IsStep judged.Dead now p byte phase q
    → IsSoundAt phases.Refused q × Takes judged.Dead (view_at now p) byte (view_at phases.Refused q)
take_dead now p byte phase q s e h = (
  refused_sound q h.0,
  (
    record { limits = h.1.limits; form = h.1.form; place = h.1.place },
    refl,
    none_goes_on p.form p.place (RestOf now p) (s.left e) p.limits (part_at now) byte (first_of_sound now p s e) p.limits h.2,
    none_goes_on p.form p.place (RestOf now p) (s.left e) p.limits (part_at now) byte (first_of_sound now p s e) no_bounds h.3,
  ),
)
