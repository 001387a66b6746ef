-- From one state of a section to the next by numbers, and between lines.
use Rattle.std.proofs.Common.{◌≡◌, ◌<◌, ◌≤◌, ◌+◌, ◌-◌, ◌/◌, ◌⊎◌, arith, ℕ, true, List, [], ◌∷◌, ◌++◌, Option, Some, refl, sym, subst, inl, inr}
use Rattle.bh_spec.specs.declared.Form.{Form}
use Rattle.bh_spec.specs.declared.Form.TheVariants.{Known, Indeterminate}
use Rattle.bh_spec.specs.declared.Part.TheVariants as parts
use Rattle.bh_spec.specs.declared.Width.{Width}
use Rattle.bh_spec.specs.Integers.{byte_count, IsAllowed, SomeBegins}
use Rattle.bh_spec.specs.Bounds.{Bounds, IsWithin, no_bounds}
use Rattle.bh_spec.specs.Canonical.{greatest}
use Rattle.bh_spec.specs.Messages.{Field}
use Rattle.bh_spec.specs.Texts.{Text, mark}
use Rattle.bh_varint.specs.Step.{IsWhole, IsUnfinished, GoesOn}
use Rattle.bh_varint.proofs.Reading.{unfinished_nil}
use Rattle.bh_fields.specs.declared.walk.Phase.{Phase}
use Rattle.bh_fields.specs.declared.walk.Phase.TheVariants as phases
use Rattle.bh_spec.specs.declared.Judged.{Judged}
use Rattle.bh_spec.specs.declared.Judged.TheVariants as judged
use Rattle.bh_fields.specs.Sets.{lines_set, names_set, values_set, free_room, Refuses}
use Rattle.bh_fields.specs.Bytewise.{Steps, HasNone, HasSome}
use Rattle.bh_varint.specs.Numbers.{NumberThen}
use Rattle.bh_fields.specs.Rests.{CanEnd, HasMore, NameBody, IsAtEnd}
use Rattle.bh_fields.specs.Points.{Point, spot_of, RestOf, LinesAt, NamedAt, part_of, most_of, IsSized}
use Rattle.bh_fields.specs.Stepping.{Moves, IsStep}
use Rattle.bh_fields.specs.States.{IsBounded, Between, LengthState, NextState, LineState, NamedState, ValueLengthState, InValue, IsFull}
use Rattle.bh_spec.proofs.Widths.{count_1}
use Rattle.bh_fields.proofs.Strings.{value_begun}
use Rattle.bh_fields.proofs.Lines.{lines_to_number, number_to_lines, end_to_lines, lines_to_end}
use Rattle.bh_fields.proofs.Counting.{HasRoom, name_allowed, value_allowed, value_can_end, names_begin, length_only, value_only, name_only}
use Rattle.bh_fields.proofs.States.{NumberText, ValueAt, number_more, number_value, number_stops, number_lives, steps_in, value_length_rest, value_rest_of, most_to, most_from, caps_of, caps_free, LengthAt, NamesAt, ValuesAt, lengths_free, names_free, values_free}
use Rattle.bh_fields.proofs.Changes.{with_number, of_total, of_used, sized_number}

-- ---- the length of a section

pub length_more : (p : Point) (byte : ℕ) (number : List ℕ) → IsSized p → LengthState p → GoesOn (lines_set (most_of p.limits)) (p.number ++ byte ∷ [])
    → number ≡ p.number ++ byte ∷ [] → IsStep judged.More phases.SectionLength p byte phases.SectionLength (with_number number p)
length_more p byte number z h on en =
    subst (λ (x : List ℕ). IsStep judged.More phases.SectionLength p byte phases.SectionLength (with_number x p)) (sym en) (
      sized_number (p.number ++ byte ∷ []) p z,
      record {
        known = h.known;
        unused = h.unused;
        empty = h.empty;
        idle = h.idle;
        flag = h.flag;
        good = h.good;
        live = on.begins;
        unfinished = on.unfinished;
      },
      record { limits = refl; form = refl; place = refl },
      number_more parts.SectionLength (LengthAt p) p.number byte,
    )

-- the section's length is whole
pub length_step : (p : Point) (byte n : ℕ) (w : Width) (number : List ℕ) → IsWhole (lines_set (most_of p.limits)) (p.number ++ byte ∷ []) n w
    → Steps (RestOf phases.SectionLength p) (LinesAt (of_total n (with_number number p))) parts.SectionLength byte
length_step p byte n w number whole = number_value parts.SectionLength (LengthAt p) (lines_set (most_of p.limits)) p.number byte n w whole

pub length_whole : (p : Point) (byte n : ℕ) (w : Width) → IsSized p → LengthState p → IsWhole (lines_set (most_of p.limits)) (p.number ++ byte ∷ []) n w
    → NextState (of_total n (with_number [] p))
length_whole p byte n w z h whole = record {
  between = record {
    idle = h.idle;
    flag = h.flag;
    good = h.good;
    bounded = subst (λ (f : Form). IsBounded p.limits f n) (sym h.known) (most_from p z n short);
    room = omega (arith, h.unused);
    spare = omega (arith, h.unused, spare, short);
    free = omega (arith, spare, free);
  };
  can_end = subst (λ (f : Form). CanEnd p.limits f n p.used) (sym h.known) (ends whole.allowed, most_from p z n short);
  number = refl;
}
  where
    ends : IsAllowed (lines_set (most_of p.limits)) (byte_count w) n → (p.used ≡ n) ⊎ (p.used + 3 ≤ n)
    ends (inl e) = inl (omega (arith, e.1, h.unused))
    ends (inr g) = inr (omega (arith, g.0.0, h.unused))

    least : IsAllowed (lines_set (most_of p.limits)) (byte_count w) n → n ≤ most_of p.limits
    least (inl e) = omega (arith, e.1)
    least (inr g) = g.0.1

    short : n ≤ most_of p.limits
    short = least whole.allowed

    spare : p.fields.spare ≡ most_of p.limits
    spare = omega (arith, rw (h.empty, h.idle) at z.bytes)

    free : p.fields.free ≡ most_of p.limits / 3
    free = omega (arith, rw (h.empty, h.idle) at z.count)

length_stops : (p : Point) (byte : ℕ) → IsSized p → LengthState p → (SomeBegins (lines_set (most_of p.limits)) (p.number ++ byte ∷ []) → ⊥)
    → HasNone (RestOf phases.SectionLength p) p.limits parts.SectionLength byte
length_stops p byte z h dead =
    number_stops parts.SectionLength (LengthAt p) p.number byte h.unfinished p.limits (lines_set (most_of p.limits))
    (length_only p.limits (spot_of p) (most_of p.limits) (most_to p z) h.known h.unused h.empty) dead

pub length_refused : (p : Point) (byte : ℕ) (phase : Phase) (answer : Judged) → IsSized p → LengthState p → (SomeBegins (lines_set (most_of p.limits)) (p.number ++ byte ∷ []) → ⊥)
    → Refuses (lines_set greatest) (p.number ++ byte ∷ []) answer → IsStep answer phases.SectionLength p byte phase p
length_refused p byte phase judged.More z h dead r = absurd r
length_refused p byte phase judged.Whole z h dead r = absurd r
length_refused p byte phase judged.Limit z h dead r = (
  z,
  record { limits = refl; form = refl; place = refl },
  length_stops p byte z h dead,
  number_lives parts.SectionLength (LengthAt p) p.number byte no_bounds (lines_set greatest) (lengths_free p h) r,
)
length_refused p byte phase judged.Dead z h dead r = (
  z,
  record { limits = refl; form = refl; place = refl },
  length_stops p byte z h dead,
  number_stops parts.SectionLength (LengthAt p) p.number byte h.unfinished no_bounds (lines_set greatest)
      (length_only no_bounds (spot_of p) greatest (λ n g u. g) h.known h.unused h.empty) r,
)

-- ---- between lines

pub next_whole : (p : Point) → IsSized p → NextState p → IsFull p.form p.total p.used → Moves judged.Whole (LinesAt p) p phases.Whole p
next_whole p z h full = (
  z,
  (refl, record { idle = h.between.idle; good = h.between.good; within = within p.form full h.between.bounded }),
  record { limits = refl; form = refl; place = refl },
  record {
    forth = λ L fields t l. lines_to_end L (spot_of p) fields t (known p.form full) (all p.form full) l;
    back = λ L fields t e. end_to_lines L (spot_of p) fields t (known p.form full) (all p.form full) e;
  },
)
  where
    known : (form : Form) → IsFull form p.total p.used → form ≡ Known
    known Known f = refl
    known Indeterminate f = absurd f

    all : (form : Form) → IsFull form p.total p.used → p.used ≡ p.total
    all Known f = f
    all Indeterminate f = absurd f

    within : (form : Form) → IsFull form p.total p.used → IsBounded p.limits form p.total → IsWithin p.limits.section p.used
    within Known f b = subst (IsWithin p.limits.section) (sym f) b
    within Indeterminate f b = absurd f

pub next_more : (p : Point) → IsSized p → NextState p → (IsFull p.form p.total p.used → ⊥) → Moves judged.More (LinesAt p) p phases.NameLength p
next_more p z h part = (
  z,
  record {
    between = h.between;
    more = more;
    live = subst (SomeBegins (names_set p.form (part_of p.limits) (Some (p.total - p.used)))) (sym h.number)
        (names_begin p.form (part_of p.limits) (Some (p.total - p.used)) (omega (arith, z.part_low)) (fits p.form part h.can_end));
    unfinished = subst IsUnfinished (sym h.number) unfinished_nil;
  },
  record { limits = refl; form = refl; place = refl },
  record {
    forth = λ K fields t l. subst (λ (x : List ℕ). NumberThen parts.NameLength (NamesAt p K fields) (mark parts.NameLength x ++ t)) (sym h.number)
        (lines_to_number K (spot_of p) fields t more l);
    back = λ K fields t n. number_to_lines K (spot_of p) fields t
        (subst (λ (x : List ℕ). NumberThen parts.NameLength (NamesAt p K fields) (mark parts.NameLength x ++ t)) h.number n);
  },
)
  where
    fits : (form : Form) → (IsFull form p.total p.used → ⊥) → CanEnd p.limits form p.total p.used → (form ≡ Indeterminate) ⊎ HasRoom (Some (p.total - p.used)) 3
    fits Known f (inl e, w) = absurd (f e)
    fits Known f (inr g, w) = inr (omega arith)
    fits Indeterminate f c = inl refl

    has : (form : Form) → (IsFull form p.total p.used → ⊥) → CanEnd p.limits form p.total p.used → HasMore form p.total p.used
    has Known f (inl e, w) = absurd (f e)
    has Known f (inr g, w) = omega arith
    has Indeterminate f c = tt

    more : HasMore p.form p.total p.used
    more = has p.form part h.can_end

-- ---- the length of a name

between_number : (number : List ℕ) (p : Point) → Between p → Between (with_number number p)
between_number number p b =
    record { idle = b.idle; flag = b.flag; good = b.good; bounded = b.bounded; room = b.room; spare = b.spare; free = b.free }

pub line_more : (p : Point) (byte : ℕ) (number : List ℕ) → IsSized p → LineState p
    → GoesOn (names_set p.form (part_of p.limits) (Some (p.total - p.used))) (p.number ++ byte ∷ [])
    → number ≡ p.number ++ byte ∷ [] → IsStep judged.More phases.NameLength p byte phases.NameLength (with_number number p)
line_more p byte number z h on en =
    subst (λ (x : List ℕ). IsStep judged.More phases.NameLength p byte phases.NameLength (with_number x p)) (sym en) (
      sized_number (p.number ++ byte ∷ []) p z,
      record {
        between = between_number (p.number ++ byte ∷ []) p h.between;
        more = h.more;
        live = on.begins;
        unfinished = on.unfinished;
      },
      record { limits = refl; form = refl; place = refl },
      number_more parts.NameLength (NamesAt p) p.number byte,
    )

pub line_step : (p : Point) (byte n : ℕ) (w : Width) (number : List ℕ) → IsWhole (names_set p.form (part_of p.limits) (Some (p.total - p.used))) (p.number ++ byte ∷ []) n w
    → Steps (RestOf phases.NameLength p) (NamedAt (with_number number p) n (byte_count w)) parts.NameLength byte
line_step p byte n w number whole =
    number_value parts.NameLength (NamesAt p) (names_set p.form (part_of p.limits) (Some (p.total - p.used))) p.number byte n w whole

pub line_whole : (p : Point) (byte n : ℕ) (w : Width) → IsSized p → LineState p
    → IsWhole (names_set p.form (part_of p.limits) (Some (p.total - p.used))) (p.number ++ byte ∷ []) n w → NamedState (with_number [] p) n (byte_count w)
line_whole p byte n w z h whole = record {
  between = between_number [] p h.between;
  allowed = whole.allowed;
  number = refl;
}

line_stops : (p : Point) (byte : ℕ) → IsSized p → LineState p
    → (SomeBegins (names_set p.form (part_of p.limits) (Some (p.total - p.used))) (p.number ++ byte ∷ []) → ⊥)
    → HasNone (RestOf phases.NameLength p) p.limits parts.NameLength byte
line_stops p byte z h dead =
    number_stops parts.NameLength (NamesAt p) p.number byte h.unfinished p.limits (names_set p.form (part_of p.limits) (Some (p.total - p.used)))
    (name_only p.limits (spot_of p) (part_of p.limits) (Some (p.total - p.used)) (caps_of p z h.between.bounded h.between.room)) dead

pub line_refused : (p : Point) (byte : ℕ) (phase : Phase) (answer : Judged) → IsSized p → LineState p
    → (SomeBegins (names_set p.form (part_of p.limits) (Some (p.total - p.used))) (p.number ++ byte ∷ []) → ⊥)
    → Refuses (names_set p.form greatest (free_room p.form (p.total - p.used))) (p.number ++ byte ∷ []) answer
    → IsStep answer phases.NameLength p byte phase p
line_refused p byte phase judged.More z h dead r = absurd r
line_refused p byte phase judged.Whole z h dead r = absurd r
line_refused p byte phase judged.Limit z h dead r = (
  z,
  record { limits = refl; form = refl; place = refl },
  line_stops p byte z h dead,
  number_lives parts.NameLength (NamesAt p) p.number byte no_bounds (names_set p.form greatest (free_room p.form (p.total - p.used))) (names_free p h.between) r,
)
line_refused p byte phase judged.Dead z h dead r = (
  z,
  record { limits = refl; form = refl; place = refl },
  line_stops p byte z h dead,
  number_stops parts.NameLength (NamesAt p) p.number byte h.unfinished no_bounds (names_set p.form greatest (free_room p.form (p.total - p.used)))
      (name_only no_bounds (spot_of p) greatest (free_room p.form (p.total - p.used)) (caps_free p h.between.room)) r,
)

pub named_whole : (p : Point) (bytes : ℕ) → IsSized p → NamedState p 0 bytes → Moves judged.Whole (NamedAt p 0 bytes) p phases.Whole p
named_whole p bytes z h = (
  z,
  (refl, record { idle = h.between.idle; good = h.between.good; within = within }),
  record { limits = refl; form = refl; place = refl },
  record { forth = λ L fields t b. forth b; back = λ L fields t e. inl (form, refl, e) },
)
  where
    ends : ((p.form ≡ Indeterminate) × ◌≡◌ {A = ℕ} 0 0) ⊎ ((0 < 0) × (0 ≤ part_of p.limits) × HasRoom (Some (p.total - p.used)) (bytes + 0) × (1 ≤ p.total - p.used - (bytes + 0))) → p.form ≡ Indeterminate
    ends (inl e) = e.0
    ends (inr g) = absurd (omega (arith, g.0))

    form : p.form ≡ Indeterminate
    form = ends (name_allowed p.form (part_of p.limits) (Some (p.total - p.used)) bytes 0 h.allowed)

    forth : {L : Bounds} {fields : List Field} {t : Text} → NameBody L (spot_of p) fields 0 bytes t → IsAtEnd L (spot_of p) fields t
    forth (inl e) = e.2
    forth (inr g) = absurd (omega (arith, g.0))

    unused : (f : Form) → f ≡ Indeterminate → IsBounded p.limits f p.total → p.limits.section ≡ Some p.total
    unused Known e b = absurd cc
    unused Indeterminate e b = b

    within : IsWithin p.limits.section p.used
    within = subst (λ (o : Option ℕ). IsWithin o p.used) (sym (unused p.form form h.between.bounded)) h.between.room

-- ---- the length of a value

pub value_length_more : (p : Point) (byte : ℕ) (number : List ℕ) → IsSized p → ValueLengthState p
    → GoesOn (values_set p.form (part_of p.limits) (Some (p.total - p.used))) (p.number ++ byte ∷ [])
    → number ≡ p.number ++ byte ∷ [] → IsStep judged.More phases.ValueLength p byte phases.ValueLength (with_number number p)
value_length_more p byte number z h on en =
    subst (λ (x : List ℕ). IsStep judged.More phases.ValueLength p byte phases.ValueLength (with_number x p)) (sym en) (
      sized_number (p.number ++ byte ∷ []) p z,
      record {
        name = h.name;
        valued = record {
          making = h.valued.making;
          named = h.valued.named;
          flag = h.valued.flag;
          behind = h.valued.behind;
          within = h.valued.within;
          good = h.valued.good;
          bounded = h.valued.bounded;
          room = h.valued.room;
          free = h.valued.free;
        };
        live = on.begins;
        unfinished = on.unfinished;
        spare = h.spare;
      },
      record { limits = refl; form = refl; place = refl },
      steps_in (NumberText parts.ValueLength (ValuesAt p h.name) p.number) (NumberText parts.ValueLength (ValuesAt p h.name) (p.number ++ byte ∷ []))
          phases.ValueLength p phases.ValueLength (with_number (p.number ++ byte ∷ []) p) parts.ValueLength byte
          (value_length_rest p h.name [] h.valued.making) (value_length_rest (with_number (p.number ++ byte ∷ []) p) h.name [] h.valued.making)
          (number_more parts.ValueLength (ValuesAt p h.name) p.number byte),
    )

value_length_stops : (p : Point) (byte : ℕ) → IsSized p → (h : ValueLengthState p)
    → (SomeBegins (values_set p.form (part_of p.limits) (Some (p.total - p.used))) (p.number ++ byte ∷ []) → ⊥)
    → HasNone (RestOf phases.ValueLength p) p.limits parts.ValueLength byte
value_length_stops p byte z h dead fields t r =
    number_stops parts.ValueLength (ValuesAt p h.name) p.number byte h.unfinished p.limits (values_set p.form (part_of p.limits) (Some (p.total - p.used)))
    (value_only p.limits (spot_of p) (part_of p.limits) (Some (p.total - p.used)) h.name (caps_of p z h.valued.bounded h.valued.room)) dead
    fields t ((value_length_rest p h.name [] h.valued.making).forth p.limits fields ((parts.ValueLength, byte) ∷ t) r)

pub value_length_refused : (p : Point) (byte : ℕ) (phase : Phase) (answer : Judged) → IsSized p → ValueLengthState p
    → (SomeBegins (values_set p.form (part_of p.limits) (Some (p.total - p.used))) (p.number ++ byte ∷ []) → ⊥)
    → Refuses (values_set p.form greatest (free_room p.form (p.total - p.used))) (p.number ++ byte ∷ []) answer
    → IsStep answer phases.ValueLength p byte phase p
value_length_refused p byte phase judged.More z h dead r = absurd r
value_length_refused p byte phase judged.Whole z h dead r = absurd r
value_length_refused p byte phase judged.Limit z h dead r =
    let some : HasSome (NumberText parts.ValueLength (ValuesAt p h.name) p.number) no_bounds parts.ValueLength byte =
    number_lives parts.ValueLength (ValuesAt p h.name) p.number byte no_bounds (values_set p.form greatest (free_room p.form (p.total - p.used))) (values_free p h.name [] h.valued) r in (
      z,
      record { limits = refl; form = refl; place = refl },
      value_length_stops p byte z h dead,
      record {
        fields = some.fields;
        after = some.after;
        rest = (value_length_rest p h.name [] h.valued.making).back no_bounds some.fields ((parts.ValueLength, byte) ∷ some.after) some.rest;
      },
    )
value_length_refused p byte phase judged.Dead z h dead r = (
  z,
  record { limits = refl; form = refl; place = refl },
  value_length_stops p byte z h dead,
  λ fields t x. number_stops parts.ValueLength (ValuesAt p h.name) p.number byte h.unfinished no_bounds (values_set p.form greatest (free_room p.form (p.total - p.used)))
      (value_only no_bounds (spot_of p) greatest (free_room p.form (p.total - p.used)) h.name (caps_free p h.valued.room)) r
      fields t ((value_length_rest p h.name [] h.valued.making).forth no_bounds fields ((parts.ValueLength, byte) ∷ t) x),
)

pub value_length_step : (p : Point) (byte n : ℕ) (w : Width) (number : List ℕ) (h : ValueLengthState p)
    → IsWhole (values_set p.form (part_of p.limits) (Some (p.total - p.used))) (p.number ++ byte ∷ []) n w
    → Steps (RestOf phases.ValueLength p) (RestOf (phases.Value n true) (of_used (p.used + (byte_count w + n)) (with_number number p))) parts.ValueLength byte
value_length_step p byte n w number h whole =
    let q : Point = of_used (p.used + (byte_count w + n)) (with_number number p) in
    steps_in (NumberText parts.ValueLength (ValuesAt p h.name) p.number) (ValueAt q h.name [] n) phases.ValueLength p (phases.Value n true) q parts.ValueLength byte
    (value_length_rest p h.name [] h.valued.making) (value_rest_of q h.name [] n true h.valued.making)
    (number_value parts.ValueLength (ValuesAt p h.name) (values_set p.form (part_of p.limits) (Some (p.total - p.used))) p.number byte n w whole)

pub value_length_whole : (p : Point) (byte n : ℕ) (w : Width) → IsSized p → (h : ValueLengthState p)
    → IsWhole (values_set p.form (part_of p.limits) (Some (p.total - p.used))) (p.number ++ byte ∷ []) n w
    → InValue (of_used (p.used + (byte_count w + n)) (with_number [] p)) [] n
value_length_whole p byte n w z h whole =
    let a = value_allowed p.form (part_of p.limits) (Some (p.total - p.used)) (byte_count w) n whole.allowed in
    let fits : byte_count w + n ≤ p.total - p.used = a.1.0 in
    record {
      name = h.name;
      valued = record {
        making = h.valued.making;
        named = h.valued.named;
        flag = h.valued.flag;
        behind = h.valued.behind;
        within = h.valued.within;
        good = h.valued.good;
        bounded = h.valued.bounded;
        room = omega (arith, h.valued.room, fits);
        free = h.valued.free;
      };
      kind = value_begun n;
      within = subst (λ (o : Option ℕ). IsWithin o (0 + n)) (sym z.part_is) (omega (arith, a.0));
      can_end = value_can_end p.limits p.form p.total p.used (Some (p.total - p.used)) (byte_count w) n (caps_of p z h.valued.bounded h.valued.room).room_is a.1;
      spare = omega (arith, h.spare, h.valued.room, fits, count_1 w);
      number = refl;
    }
