-- From one state of a section to the next by the bytes of names and values, and at the end of a line.
use Rattle.std.proofs.Common.{◌≡◌, ◌<◌, ◌≤◌, ◌+◌, ◌-◌, ◌/◌, ◌⊎◌, ◌↔◌, arith, ℕ, zero, suc, Bool, true, false, IsTrue, List, [], ◌∷◌, ◌++◌, length, Option, Some, None, refl, sym, ap, subst, ◌∙◌, inl, inr}
use Rattle.std.specs.Prelude.{option_map, option_to_list}
use Rattle.std.specs.Char.{to_ascii_lowercase}
use Rattle.std.proofs.lemmas.List.{length-append}
use Rattle.std.proofs.lemmas.Bool.{false≢true}
use Rattle.bh_spec.specs.declared.Form.TheVariants.{Indeterminate}
use Rattle.bh_spec.specs.declared.Part.{Part}
use Rattle.bh_spec.specs.declared.Part.TheVariants as parts
use Rattle.bh_spec.specs.Integers.{SomeBegins}
use Rattle.bh_spec.specs.Bounds.{Bounds, IsWithin, no_bounds}
use Rattle.bh_spec.specs.Bytes.{lower}
use Rattle.bh_spec.specs.Messages.{Field, IsValue}
use Rattle.bh_spec.specs.Texts.{Text, mark}
use Rattle.bh_varint.specs.Step.{IsUnfinished}
use Rattle.bh_varint.proofs.Reading.{unfinished_nil}
use Rattle.bh_model.specs.Rules.{IsNameBehind}
use Rattle.bh_model.specs.Lines.{FieldsView, lines_room, making_room, making_count, name_grown_by, value_grown_by}
use Rattle.bh_fields.specs.declared.walk.Phase.{Phase}
use Rattle.bh_fields.specs.declared.walk.Phase.TheVariants as phases
use Rattle.bh_spec.specs.declared.Judged.TheVariants as judged
use Rattle.bh_fields.specs.Sets.{values_set}
use Rattle.bh_fields.specs.Rests.{Spot, further, with_line, AreGood, LinesLeft, ValueLeft, NameLeft, NameBody}
use Rattle.bh_fields.specs.Bytewise.{Steps, AreSame, HasNone}
use Rattle.bh_fields.specs.Names.{MayBePseudo, NameTakes, flag_behind, ValueTakes, IsValueByte}
use Rattle.bh_fields.specs.Points.{Point, spot_of, RestOf, LinesAt, NamedAt, part_of, most_of, IsSized}
use Rattle.bh_fields.specs.Stepping.{Moves, IsStep}
use Rattle.bh_fields.specs.States.{NextState, NamedState, making_of, NameState, InValue}
use Rattle.bh_fields.proofs.Strings.{line_of, name_whole, flag_on, name_good, flag_good, name_takes, value_takes, value_good, value_whole}
use Rattle.bh_fields.proofs.Lines.{name_forth, name_back, name_to_value, value_to_name, value_forth, value_back, value_to_lines, lines_to_value}
use Rattle.bh_fields.proofs.Counting.{name_allowed, values_begin, name_left_is, value_left_is, good_on}
use Rattle.bh_fields.proofs.Memory.{lines_room-push}
use Rattle.bh_fields.proofs.States.{NumberText, ValuesAt, NameAt, ValueAt, steps_same, same_on, turned, rest_in, steps_in, line_is, name_rest, value_rest_of}
use Rattle.bh_fields.proofs.Changes.{with_lines, of_used, sized_at, sized_used}

-- ---- the first byte of a name

-- the lines with one that begins
pub record IsStarted (old new : FieldsView) : Type 0 where
  pub lines : new.lines ≡ old.lines
  pub making : new.making ≡ making_of [] []
  pub spare : new.spare + 2 ≡ old.spare
  pub free : new.free + 1 ≡ old.free

name_room : (p : Point) (n bytes : ℕ) → IsSized p → NamedState p n bytes → 0 < n → (n ≤ part_of p.limits) × (bytes + n ≤ p.total - p.used) × (1 ≤ p.total - p.used - (bytes + n))
name_room p n bytes z h some = at (name_allowed p.form (part_of p.limits) (Some (p.total - p.used)) bytes n h.allowed)
  where
    at : ((p.form ≡ Indeterminate) × (n ≡ 0)) ⊎ ((0 < n) × (n ≤ part_of p.limits) × (bytes + n ≤ p.total - p.used) × (1 ≤ p.total - p.used - (bytes + n)))
        → (n ≤ part_of p.limits) × (bytes + n ≤ p.total - p.used) × (1 ≤ p.total - p.used - (bytes + n))
    at (inl e) = absurd (omega (arith, e.1))
    at (inr g) = (g.1, g.2, g.3)

pub start_fits : (p : Point) (n bytes : ℕ) → IsSized p → NamedState p n bytes → 0 < n → 1 ≤ bytes → (3 ≤ p.fields.spare) × (1 ≤ p.fields.free)
start_fits p n bytes z h some one =
    let r = name_room p n bytes z h some in
    let spare : 3 ≤ p.fields.spare = omega (arith, r.1, r.2, h.between.spare, h.between.room) in
    (spare, omega (arith, h.between.free))

-- what was made for a section is made for it with other lines
sized_lines : (p : Point) (fields : FieldsView) → IsSized p → fields.spare + lines_room fields.lines + making_room fields.making ≡ most_of p.limits
    → fields.free + length fields.lines + making_count fields.making ≡ most_of p.limits / 3 → IsSized (with_lines fields p)
sized_lines p fields z bytes count =
    record { part_is = z.part_is; part_low = z.part_low; most_is = z.most_is; most_high = z.most_high; bytes = bytes; count = count }

sized_started : (p : Point) (fields : FieldsView) → IsSized p → p.fields.making ≡ None → IsStarted p.fields fields → IsSized (with_lines fields p)
sized_started p fields z idle s = sized_lines p fields z
    (rw (s.lines, s.making) (omega (arith, s.spare, rw idle at z.bytes)))
    (rw (s.lines, s.making) (omega (arith, s.free, rw idle at z.count)))

-- the same state with the lines given by an equation
abbrev spot_with : Point → List Field → Spot
spot_with p done = record { form = p.form; place = p.place; total = p.total; used = p.used; done = done }

pub name_begun : (p : Point) (n bytes : ℕ) (fields : FieldsView) → IsSized p → NamedState p n bytes → 0 < n → 1 ≤ bytes → IsStarted p.fields fields
    → Moves judged.More (NamedAt p n bytes) p (phases.Name n) (with_lines fields (of_used (p.used + (bytes + n)) p))
name_begun p n bytes fields z h some one s =
    let r = name_room p n bytes z h some in
    let q = of_used (p.used + (bytes + n)) p in
    let next = with_lines fields q in (
      sized_started q fields (sized_used (p.used + (bytes + n)) p z) h.between.idle s,
      record {
        name = [];
        making = s.making;
        flag = subst (λ (x : List Field). IsTrue p.flag ↔ MayBePseudo p.place x []) (sym s.lines) h.between.flag;
        kind = record { lower_case = refl; kind = some };
        within = subst (λ (o : Option ℕ). IsWithin o (0 + n)) (sym z.part_is) (omega (arith, r.0));
        some = some;
        good = subst (AreGood p.limits p.place) (sym s.lines) h.between.good;
        bounded = h.between.bounded;
        room = omega (arith, r.1, r.2, h.between.room);
        spare = omega (arith, s.spare, h.between.spare, r.1, one);
        free = omega (arith, s.spare, s.free, h.between.free);
        number = h.number;
      },
      record { limits = refl; form = refl; place = refl },
      same_on (NamedAt p n bytes) (NameAt q [] n) (RestOf (phases.Name n) next) (record { forth = λ K fs t b. body b; back = λ K fs t l. inr (some, l) })
          (turned (RestOf (phases.Name n) next) (NameAt q [] n)
          (rest_in (phases.Name n) next (line_of [] []) (spot_of q) (line_is next [] [] s.making) (ap (spot_with q) s.lines))),
    )
  where
    body : {K : Bounds} {fs : List Field} {t : Text} → NameBody K (spot_of p) fs n bytes t → NameLeft K (further (bytes + n) (spot_of p)) [] n fs t
    body (inl e) = absurd (omega (arith, e.1))
    body (inr b) = b.1

-- ---- the bytes of a name

-- the lines with so many bytes more of the one that is being made
pub record IsGrownBy (grow : Field → Field) (bytes : ℕ) (old new : FieldsView) : Type 0 where
  pub lines : new.lines ≡ old.lines
  pub making : new.making ≡ option_map grow old.making
  pub spare : new.spare + bytes ≡ old.spare
  pub free : new.free ≡ old.free

-- with a byte more of its name
abbrev pub IsNamedOn : ℕ → FieldsView → FieldsView → Type 0
IsNamedOn byte old new = IsGrownBy (name_grown_by (byte ∷ [])) 1 old new

making_name : (byte : ℕ) (name : List ℕ) (old new : FieldsView) → old.making ≡ making_of name [] → IsNamedOn byte old new → new.making ≡ making_of (name ++ to_ascii_lowercase byte ∷ []) []
making_name byte name old new e s = s.making ∙ ap (option_map (name_grown_by (byte ∷ []))) e

sized_named : (p : Point) (byte : ℕ) (name : List ℕ) (fields : FieldsView) → IsSized p → p.fields.making ≡ making_of name [] → IsNamedOn byte p.fields fields → IsSized (with_lines fields p)
sized_named p byte name fields z e s = sized_lines p fields z
    (rw (s.lines, making_name byte name p.fields fields e s) (omega (arith, s.spare, rw e at z.bytes, length-append name (to_ascii_lowercase byte ∷ []))))
    (rw (s.lines, making_name byte name p.fields fields e s) (omega (arith, s.free, rw e at z.count)))

-- the point behind a byte of a name
abbrev pub named_point : Bool → FieldsView → Point → Point
named_point flag fields p = record {
  limits = p.limits;
  form = p.form;
  place = p.place;
  total = p.total;
  used = p.used;
  number = p.number;
  flag = flag;
  fields = fields;
}

sized_flag : (flag : Bool) (p : Point) → IsSized p → IsSized (named_point flag p.fields p)
sized_flag flag p z = sized_at p p.form p.place p.total p.used p.number flag z

name_steps : (p : Point) (name : List ℕ) (m byte : ℕ) → Steps (NameAt p name (suc m)) (NameAt p (name ++ to_ascii_lowercase byte ∷ []) m) parts.Name byte
name_steps p name m byte = record {
  forth = λ K fs t l. name_forth K (spot_of p) name m byte fs t l;
  back = λ K fs t l. name_back K (spot_of p) name m byte fs t l;
}

-- the bytes of a name that goes on
name_more : (p : Point) (m byte : ℕ) (flag : Bool) (fields : FieldsView) → byte < 256 → IsSized p → (h : NameState p (suc m)) → 0 < m
    → NameTakes p.flag h.name (suc m) byte → flag ≡ flag_behind p.flag h.name byte → IsNamedOn byte p.fields fields
    → IsStep judged.More (phases.Name (suc m)) p byte (phases.Name m) (named_point flag fields p)
name_more p m byte flag fields small z h some takes ef s =
    subst (λ (x : Bool). IsStep judged.More (phases.Name (suc m)) p byte (phases.Name m) (named_point x fields p)) (sym ef) (
      sized_named q byte h.name fields (sized_flag f p z) h.making s,
      record {
        name = more;
        making = making;
        flag = subst (λ (x : List Field). IsTrue f ↔ MayBePseudo p.place x more) (sym s.lines) (flag_good p.place p.fields.lines h.name (suc m) byte p.flag small h.flag takes);
        kind = name_good p.flag h.name m byte small h.kind takes;
        within = subst (IsWithin p.limits.part) (omega (arith, length-append h.name (to_ascii_lowercase byte ∷ []))) h.within;
        some = some;
        good = subst (AreGood p.limits p.place) (sym s.lines) h.good;
        bounded = h.bounded;
        room = h.room;
        spare = omega (arith, s.spare, h.spare);
        free = omega (arith, s.spare, s.free, h.free, length-append h.name (to_ascii_lowercase byte ∷ []));
        number = h.number;
      },
      record { limits = refl; form = refl; place = refl },
      steps_in (NameAt p h.name (suc m)) (NameAt p more m) (phases.Name (suc m)) p (phases.Name m) next parts.Name byte
          (name_rest p h.name [] (suc m) h.making)
          (rest_in (phases.Name m) next (line_of more []) (spot_of p) (line_is next more [] making) (ap (spot_with p) s.lines)) (name_steps p h.name m byte),
    )
  where
    more : List ℕ
    more = h.name ++ to_ascii_lowercase byte ∷ []

    f : Bool
    f = flag_behind p.flag h.name byte

    q : Point
    q = named_point f p.fields p

    next : Point
    next = named_point f fields p

    making : fields.making ≡ making_of more []
    making = making_name byte h.name p.fields fields h.making s

-- behind a name nothing but its value's length may follow
value_behind : (p : Point) (name : List ℕ) → p.number ≡ [] → AreSame (NameAt p name 0) (NumberText parts.ValueLength (ValuesAt p name) p.number)
value_behind p name e =
    subst (λ (x : List ℕ). AreSame (NameAt p name 0) (NumberText parts.ValueLength (ValuesAt p name) x)) (sym e)
    (record {
      forth = λ K fs t l. name_to_value K (spot_of p) name fs t l;
      back = λ K fs t l. value_to_name K (spot_of p) name fs t l;
    })

-- the last byte of a name
name_last : (p : Point) (byte : ℕ) (flag : Bool) (fields : FieldsView) → byte < 256 → IsSized p → (h : NameState p 1)
    → NameTakes p.flag h.name 1 byte → flag ≡ flag_behind p.flag h.name byte → IsNamedOn byte p.fields fields
    → IsStep judged.More (phases.Name 1) p byte phases.ValueLength (named_point flag fields p)
name_last p byte flag fields small z h takes ef s =
    subst (λ (x : Bool). IsStep judged.More (phases.Name 1) p byte phases.ValueLength (named_point x fields p)) (sym ef) there
  where
    there : IsStep judged.More (phases.Name 1) p byte phases.ValueLength (named_point (flag_behind p.flag h.name byte) fields p)
    there =
        let f = flag_behind p.flag h.name byte in
        let name = h.name ++ to_ascii_lowercase byte ∷ [] in
        let long : length name ≡ length h.name + 1 = length-append h.name (to_ascii_lowercase byte ∷ []) in
        let q = named_point f p.fields p in
        let next = named_point f fields p in
        let making : fields.making ≡ making_of name [] = making_name byte h.name p.fields fields h.making s in
        let may = flag_good p.place p.fields.lines h.name 1 byte p.flag small h.flag takes in
        let good = name_good p.flag h.name 0 byte small h.kind takes in
        let room : 1 ≤ p.total - p.used = omega (arith, h.room) in (
          sized_named q byte h.name fields (sized_flag f p z) h.making s,
          record {
            name = name;
            valued = record {
              making = making;
              named = omega (arith, long);
              flag = subst (λ (x : List Field). IsTrue f ↔ MayBePseudo p.place x name) (sym s.lines) may;
              behind = subst (λ (x : List Field). IsNameBehind p.place x name) (sym s.lines) (name_whole p.place p.fields.lines name f may good);
              within = subst (IsWithin p.limits.part) (sym long) h.within;
              good = subst (AreGood p.limits p.place) (sym s.lines) h.good;
              bounded = h.bounded;
              room = omega (arith, h.room);
              free = omega (arith, s.spare, s.free, h.free);
            };
            live = subst (SomeBegins (values_set p.form (part_of p.limits) (Some (p.total - p.used)))) (sym h.number)
                (values_begin p.form (part_of p.limits) (Some (p.total - p.used)) (omega (arith, z.part_low)) room);
            unfinished = subst IsUnfinished (sym h.number) unfinished_nil;
            spare = omega (arith, s.spare, h.spare);
          },
          record { limits = refl; form = refl; place = refl },
          steps_in (NameAt p h.name 1) (NumberText parts.ValueLength (ValuesAt p name) p.number) (phases.Name 1) p phases.ValueLength next parts.Name byte
              (name_rest p h.name [] 1 h.making)
              (rest_in phases.ValueLength next (line_of name []) (spot_of p) (line_is next name [] making) (ap (spot_with p) s.lines))
              (steps_same (NameAt p h.name 1) (NameAt p name 0) (NumberText parts.ValueLength (ValuesAt p name) p.number) parts.Name byte
              (name_steps p h.name 0 byte) (value_behind p name h.number)),
        )

-- the name that is stored is the name so far
pub name_is : (p : Point) (name front : List ℕ) → p.fields.making ≡ making_of name [] → option_map (λ (line : Field). line.name) p.fields.making ≡ Some front
    → lower name ≡ name → lower front ≡ name
name_is p name front e f g =
    let same : Some name ≡ Some front = sym (ap (option_map (λ (line : Field). line.name)) e) ∙ f in
    let names : name ≡ front = cc in
    ap lower (sym names) ∙ g

-- a byte that no name has next
pub name_dead : (p : Point) (missing byte : ℕ) (phase : Phase) → byte < 256 → IsSized p → (h : NameState p missing) → (NameTakes p.flag h.name missing byte → ⊥)
    → IsStep judged.Dead (phases.Name missing) p byte phase p
name_dead p missing byte phase small z h none = (z, record { limits = refl; form = refl; place = refl }, stops p.limits, stops no_bounds)
  where
    first_is : (tail : List ℕ) (t behind : Text) → length tail ≡ missing → (parts.Name, byte) ∷ t ≡ mark parts.Name tail ++ behind
        → IsNameBehind p.place p.fields.lines (h.name ++ lower tail) → ⊥
    first_is [] t behind long e b = absurd (omega (arith, h.some))
    first_is (c ∷ tail) t behind long e b =
        let x : Part × ℕ = (parts.Name, byte) in
        let y : Part × ℕ = (parts.Name, c) in
        let pair : x ≡ y = cc in
        let head : c ≡ byte = sym (ap (λ (v : Part × ℕ). v.1) pair) in
        none (name_takes p.place p.fields.lines h.name tail missing byte p.flag small h.flag (omega arith)
        (subst (λ (v : ℕ). IsNameBehind p.place p.fields.lines (h.name ++ (to_ascii_lowercase v ∷ lower tail))) head b))

    stops : (K : Bounds) → HasNone (RestOf (phases.Name missing) p) K parts.Name byte
    stops K fs t r =
        let l : NameLeft K (spot_of p) h.name missing fs ((parts.Name, byte) ∷ t) = (name_rest p h.name [] missing h.making).forth K fs ((parts.Name, byte) ∷ t) r in
        first_is l.tail t l.behind l.long l.spelled (name_left_is K (spot_of p) h.name missing fs ((parts.Name, byte) ∷ t) l)

-- ---- the bytes of a value

pub value_begins : (p : Point) (n : ℕ) → IsSized p → InValue p [] n → 0 < n → Moves judged.More (RestOf (phases.Value n true) p) p (phases.Value n true) p
value_begins p n z h some = (
  z,
  record { value = []; inside = h; some = some; first_is = (λ e. refl, λ e. refl) },
  record { limits = refl; form = refl; place = refl },
  record { forth = λ L fs t r. r; back = λ L fs t r. r },
)

-- the lines with a byte more of the value that is being made
abbrev pub IsValuedOn : ℕ → FieldsView → FieldsView → Type 0
IsValuedOn byte old new = IsGrownBy (value_grown_by (byte ∷ [])) 1 old new

-- the point behind a byte of a value
abbrev pub valued_point : FieldsView → Point → Point
valued_point fields p = with_lines fields p

making_value : (p : Point) (byte : ℕ) (name value : List ℕ) (fields : FieldsView) → p.fields.making ≡ making_of name value → IsValuedOn byte p.fields fields
    → fields.making ≡ making_of name (value ++ byte ∷ [])
making_value p byte name value fields e s = s.making ∙ ap (option_map (value_grown_by (byte ∷ []))) e

pub sized_valued : (p : Point) (byte : ℕ) (value : List ℕ) (m : ℕ) (fields : FieldsView) → IsSized p → InValue p value m → IsValuedOn byte p.fields fields
    → IsSized (valued_point fields p)
sized_valued p byte value m fields z h s =
    let making : fields.making ≡ making_of h.name (value ++ byte ∷ []) = making_value p byte h.name value fields h.valued.making s in
    sized_lines p fields z
    (rw (s.lines, making) (omega (arith, s.spare, rw h.valued.making at z.bytes, length-append value (byte ∷ []))))
    (rw (s.lines, making) (omega (arith, s.free, rw h.valued.making at z.count)))

value_taken : (p : Point) (value : List ℕ) (m byte : ℕ) (fields : FieldsView) → IsSized p → InValue p value (suc m) → ValueTakes value (suc m) byte
    → IsValuedOn byte p.fields fields → InValue (valued_point fields p) (value ++ byte ∷ []) m
value_taken p value m byte fields z h takes s = record {
  name = h.name;
  valued = record {
    making = making_value p byte h.name value fields h.valued.making s;
    named = h.valued.named;
    flag = subst (λ (x : List Field). IsTrue p.flag ↔ MayBePseudo p.place x h.name) (sym s.lines) h.valued.flag;
    behind = subst (λ (x : List Field). IsNameBehind p.place x h.name) (sym s.lines) h.valued.behind;
    within = h.valued.within;
    good = subst (AreGood p.limits p.place) (sym s.lines) h.valued.good;
    bounded = h.valued.bounded;
    room = h.valued.room;
    free = omega (arith, s.spare, s.free, h.valued.free);
  };
  kind = value_good value m byte h.kind takes;
  within = subst (IsWithin p.limits.part) (omega (arith, length-append value (byte ∷ []))) h.within;
  can_end = h.can_end;
  spare = omega (arith, s.spare, h.spare);
  number = h.number;
}

value_taken_steps : (p : Point) (value : List ℕ) (m byte : ℕ) (first next : Bool) (fields : FieldsView) → InValue p value (suc m) → IsValuedOn byte p.fields fields
    → Steps (RestOf (phases.Value (suc m) first) p) (RestOf (phases.Value m next) (valued_point fields p)) parts.Value byte
value_taken_steps p value m byte first next fields h s =
    let more : List ℕ = value ++ byte ∷ [] in
    let q : Point = valued_point fields p in
    steps_in (ValueAt p h.name value (suc m)) (ValueAt p h.name more m) (phases.Value (suc m) first) p (phases.Value m next) q parts.Value byte
    (value_rest_of p h.name value (suc m) first h.valued.making)
    (rest_in (phases.Value m next) q (line_of h.name more) (spot_of p) (line_is q h.name more (making_value p byte h.name value fields h.valued.making s)) (ap (spot_with p) s.lines))
    (record {
      forth = λ K fs t l. value_forth K (spot_of p) h.name value m byte fs t l;
      back = λ K fs t l. value_back K (spot_of p) h.name value m byte fs t l;
    })

-- a byte that no value has next
pub value_dead : (p : Point) (value : List ℕ) (missing byte : ℕ) (first : Bool) (phase : Phase) → IsSized p → InValue p value missing → 0 < missing → (ValueTakes value missing byte → ⊥)
    → IsStep judged.Dead (phases.Value missing first) p byte phase p
value_dead p value missing byte first phase z h some none = (z, record { limits = refl; form = refl; place = refl }, stops p.limits, stops no_bounds)
  where
    first_is : (tail : List ℕ) (t behind : Text) → length tail ≡ missing → (parts.Value, byte) ∷ t ≡ mark parts.Value tail ++ behind → IsValue (value ++ tail) → ⊥
    first_is [] t behind long e b = absurd (omega arith)
    first_is (c ∷ tail) t behind long e b =
        let x : Part × ℕ = (parts.Value, byte) in
        let y : Part × ℕ = (parts.Value, c) in
        let pair : x ≡ y = cc in
        let head : c ≡ byte = sym (ap (λ (v : Part × ℕ). v.1) pair) in
        none (value_takes value tail missing byte (omega arith) (subst (λ (v : ℕ). IsValue (value ++ (v ∷ tail))) head b))

    stops : (K : Bounds) → HasNone (RestOf (phases.Value missing first) p) K parts.Value byte
    stops K fs t r =
        let l : ValueLeft K (spot_of p) h.name value missing fs ((parts.Value, byte) ∷ t) = (value_rest_of p h.name value missing first h.valued.making).forth K fs ((parts.Value, byte) ∷ t) r in
        first_is l.tail t l.behind l.long l.spelled (value_left_is K (spot_of p) h.name value missing fs ((parts.Value, byte) ∷ t) l)

-- ---- the end of a line

-- the lines with the one that was made
pub record IsEndedOn (old new : FieldsView) : Type 0 where
  pub lines : new.lines ≡ old.lines ++ option_to_list old.making
  pub making : new.making ≡ None
  pub spare : new.spare ≡ old.spare
  pub free : new.free ≡ old.free

pub line_ended : (p : Point) (value : List ℕ) (fields : FieldsView) → IsSized p → InValue p value 0 → IsEndedOn p.fields fields
    → IsSized (with_lines fields p) × NextState (with_lines fields p)
line_ended p value fields z h s = (
  sized,
  record {
    between = record {
      idle = s.making;
      flag = subst (λ (x : List Field). IsTrue p.flag ↔ MayBePseudo p.place x []) (sym lines) (flag_on p.place p.fields.lines h.name value p.flag h.valued.flag h.valued.behind h.valued.named);
      good = subst (AreGood p.limits p.place) (sym lines)
          (good_on p.limits p.place p.fields.lines h.name value h.valued.good h.valued.behind (value_whole value h.kind) h.valued.within
          (subst (IsWithin p.limits.part) (omega arith) h.within));
      bounded = h.valued.bounded;
      room = h.valued.room;
      spare = omega (arith, s.spare, h.spare);
      free = omega (arith, s.spare, s.free, h.valued.free);
    };
    can_end = h.can_end;
    number = h.number;
  },
)
  where
    lines : fields.lines ≡ p.fields.lines ++ line_of h.name value ∷ []
    lines = s.lines ∙ ap (λ (o : Option Field). p.fields.lines ++ option_to_list o) h.valued.making

    sized : IsSized (with_lines fields p)
    sized = sized_lines p fields z
        (rw (lines, s.making) (omega (arith, s.spare, rw h.valued.making at z.bytes, lines_room-push p.fields.lines (line_of h.name value))))
        (rw (lines, s.making) (omega (arith, s.free, rw h.valued.making at z.count, length-append p.fields.lines (line_of h.name value ∷ []))))

pub line_ended_same : (p : Point) (value : List ℕ) (first : Bool) (fields : FieldsView) → InValue p value 0 → IsEndedOn p.fields fields
    → AreSame (RestOf (phases.Value 0 first) p) (LinesAt (with_lines fields p))
line_ended_same p value first fields h s =
    let lines : p.fields.lines ++ line_of h.name value ∷ [] ≡ fields.lines = sym (s.lines ∙ ap (λ (o : Option Field). p.fields.lines ++ option_to_list o) h.valued.making) in
    subst (λ (x : List Field). AreSame (RestOf (phases.Value 0 first) p) (λ L fs t. LinesLeft L (spot_with p x) fs t)) lines
    (same_on (RestOf (phases.Value 0 first) p) (ValueAt p h.name value 0) (λ L fs t. LinesLeft L (with_line (line_of h.name value) (spot_of p)) fs t)
    (value_rest_of p h.name value 0 first h.valued.making)
    (record {
      forth = λ K fs t l. value_to_lines K (spot_of p) h.name value fs t l;
      back = λ K fs t l. lines_to_value K (spot_of p) h.name value fs t l;
    }))

-- ---- for the code, which counts down

pub name_step : (p : Point) (missing byte : ℕ) (flag : Bool) (fields : FieldsView) → byte < 256 → IsSized p → (h : NameState p missing) → 1 < missing
    → NameTakes p.flag h.name missing byte → flag ≡ flag_behind p.flag h.name byte → IsNamedOn byte p.fields fields
    → IsStep judged.More (phases.Name missing) p byte (phases.Name (missing - 1)) (named_point flag fields p)
name_step p zero byte flag fields small z h some takes ef s = absurd (omega arith)
name_step p (suc m) byte flag fields small z h some takes ef s =
    subst (λ (x : ℕ). IsStep judged.More (phases.Name (suc m)) p byte (phases.Name x) (named_point flag fields p)) (let e : m ≡ suc m - 1 = omega arith in e)
    (name_more p m byte flag fields small z h (omega arith) takes ef s)

pub name_end : (p : Point) (missing byte : ℕ) (flag : Bool) (fields : FieldsView) → byte < 256 → IsSized p → (h : NameState p missing) → missing ≤ 1
    → NameTakes p.flag h.name missing byte → flag ≡ flag_behind p.flag h.name byte → IsNamedOn byte p.fields fields
    → IsStep judged.More (phases.Name missing) p byte phases.ValueLength (named_point flag fields p)
name_end p zero byte flag fields small z h one takes ef s = absurd (omega (arith, h.some))
name_end p (suc zero) byte flag fields small z h one takes ef s = name_last p byte flag fields small z h takes ef s
name_end p (suc (suc m)) byte flag fields small z h one takes ef s = absurd (omega arith)

pub value_step : (p : Point) (value : List ℕ) (missing byte : ℕ) (fields : FieldsView) → IsSized p → InValue p value missing → 0 < missing
    → ValueTakes value missing byte → IsValuedOn byte p.fields fields → InValue (valued_point fields p) (value ++ byte ∷ []) (missing - 1)
value_step p value zero byte fields z h some takes s = absurd (omega arith)
value_step p value (suc m) byte fields z h some takes s =
    subst (λ (x : ℕ). InValue (valued_point fields p) (value ++ byte ∷ []) x) (let e : m ≡ suc m - 1 = omega arith in e)
    (value_taken p value m byte fields z h takes s)

pub value_steps : (p : Point) (value : List ℕ) (missing byte : ℕ) (first next : Bool) (fields : FieldsView) → InValue p value missing → 0 < missing → IsValuedOn byte p.fields fields
    → Steps (RestOf (phases.Value missing first) p) (RestOf (phases.Value (missing - 1) next) (valued_point fields p)) parts.Value byte
value_steps p value zero byte first next fields h some s = absurd (omega arith)
value_steps p value (suc m) byte first next fields h some s =
    subst (λ (x : ℕ). Steps (RestOf (phases.Value (suc m) first) p) (RestOf (phases.Value x next) (valued_point fields p)) parts.Value byte) (let e : m ≡ suc m - 1 = omega arith in e)
    (value_taken_steps p value m byte first next fields h s)

pub takes_from : (value : List ℕ) (first : Bool) (missing byte : ℕ) → IsTrue first ↔ (value ≡ []) → IsValueByte first missing byte → ValueTakes value missing byte
takes_from value first missing byte f b = record { is = b.0; first = λ e. b.1 (f.1 e); last = b.2 }

pub takes_to : (value : List ℕ) (first : Bool) (missing byte : ℕ) → IsTrue first ↔ (value ≡ []) → ValueTakes value missing byte → IsValueByte first missing byte
takes_to value first missing byte f t = (t.is, λ e. t.first (f.0 e), t.last)

pub pushed_some : (value : List ℕ) (byte : ℕ) → IsTrue false ↔ (value ++ byte ∷ [] ≡ [])
pushed_some value byte = (λ e. absurd (false≢true e), λ e. absurd (some value e))
  where
    some : (xs : List ℕ) → xs ++ byte ∷ [] ≡ [] → ⊥
    some [] e = cc
    some (x ∷ xs) e = cc
