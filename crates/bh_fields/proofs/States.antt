-- What a number's byte makes of a section, whatever the number is; and the part of the next byte in each state.
use Rattle.std.proofs.Common.{◌≡◌, ◌<◌, ◌≤◌, ◌-◌, arith, ℕ, Bool, List, [], ◌∷◌, ◌++◌, length, Option, Some, refl, sym, ap, subst}
use Rattle.bh_spec.specs.declared.Allowed.{Allowed}
use Rattle.bh_spec.specs.declared.Form.{Form}
use Rattle.bh_spec.specs.declared.Form.TheVariants.{Known, Indeterminate}
use Rattle.bh_spec.specs.declared.Part.{Part}
use Rattle.bh_spec.specs.declared.Part.TheVariants as parts
use Rattle.bh_spec.specs.declared.Width.{Width}
use Rattle.bh_spec.specs.Integers.{limit_of, byte_count, IsAllowed, SomeBegins}
use Rattle.bh_spec.specs.Bounds.{Bounds, IsWithin, no_bounds}
use Rattle.bh_spec.specs.Canonical.{greatest}
use Rattle.bh_spec.specs.Messages.{Field}
use Rattle.bh_spec.specs.Texts.{Text, mark}
use Rattle.bh_spec.proofs.Marks.{mark-snoc}
use Rattle.bh_spec.proofs.Within.{within_some, some_within}
use Rattle.bh_varint.specs.Step.{IsWhole, IsUnfinished}
use Rattle.bh_model.specs.declared.field.Place.{Place}
use Rattle.bh_fields.specs.declared.walk.Phase.{Phase}
use Rattle.bh_fields.specs.declared.walk.Phase.TheVariants as phases
use Rattle.bh_fields.specs.Sets.{lines_set, names_set, values_set, free_room}
use Rattle.bh_varint.specs.Numbers.{NumberThen}
use Rattle.bh_fields.specs.Rests.{Spot, AreGood, ValueLeft, ValueBody, NameLeft, NameBody, LengthBody}
use Rattle.bh_fields.specs.Middle.{line_begun, RestAt}
use Rattle.bh_fields.specs.Bytewise.{Steps, AreSame, HasNone, HasSome, HasFirst}
use Rattle.bh_fields.specs.Phases.{part_at}
use Rattle.bh_fields.specs.Points.{Point, spot_of, RestOf, part_of, most_of, IsSized}
use Rattle.bh_fields.specs.States.{making_of, IsBounded, LengthState, Between, LineState, NameState, Valued, ValueLengthState, InValue, ReadingAt}
use Rattle.bh_varint.specs.Numbers.{Continues}
use Rattle.bh_varint.proofs.Numbers.{number_to, number_from, number_dead, number_alive, number_opens}
use Rattle.bh_fields.proofs.Strings.{line_of, name_goes_on, value_goes_on}
use Rattle.bh_fields.specs.Alive.{Caps, RoomIs, RoomWithin}
use Rattle.bh_fields.proofs.Counting.{length_from, value_from, value_opens, name_from, name_opens}

-- ---- a number's byte

abbrev pub NumberText : Part → (Bounds → List Field → ℕ → ℕ → Text → Type 0) → List ℕ → Bounds → List Field → Text → Type 0
NumberText part Body now L fields t = NumberThen part (Body L fields) (mark part now ++ t)

-- the same in other words
pub steps_same : (R S T : Bounds → List Field → Text → Type 0) (part : Part) (byte : ℕ) → Steps R S part byte → AreSame S T → Steps R T part byte
steps_same R S T part byte s e = record { forth = λ L fields t r. e.forth L fields t (s.forth L fields t r); back = λ L fields t r. s.back L fields t (e.back L fields t r) }

number_first : (part : Part) (Body : Bounds → List Field → ℕ → ℕ → Text → Type 0) (L : Bounds) (set : Allowed) (now : List ℕ)
    → Continues (Body L) set → IsUnfinished now → SomeBegins set now → HasFirst (NumberText part Body now) L part
number_first part Body L set now from un live =
    let o = number_opens part (Body L) set now from un live in
    (o.1, record { fields = o.0; after = o.2; rest = o.3 })

pub number_more : (part : Part) (Body : Bounds → List Field → ℕ → ℕ → Text → Type 0) (now : List ℕ) (byte : ℕ)
    → Steps (NumberText part Body now) (NumberText part Body (now ++ byte ∷ [])) part byte
number_more part Body now byte = record {
  forth = λ K fields t h. subst (NumberThen part (Body K fields)) (sym (mark-snoc part now byte t)) h;
  back = λ K fields t h. subst (NumberThen part (Body K fields)) (mark-snoc part now byte t) h;
}

pub number_value : (part : Part) (Body : Bounds → List Field → ℕ → ℕ → Text → Type 0) (set : Allowed) (now : List ℕ) (byte n : ℕ) (w : Width) → IsWhole set (now ++ byte ∷ []) n w
    → Steps (NumberText part Body now) (λ K fields t. Body K fields n (byte_count w) t) part byte
number_value part Body set now byte n w whole =
    steps_same (NumberText part Body now) (NumberText part Body (now ++ byte ∷ [])) (λ K fields t. Body K fields n (byte_count w) t) part byte (number_more part Body now byte)
    (record {
      forth = λ K fields t h. number_to part (Body K fields) set (now ++ byte ∷ []) n w t whole h;
      back = λ K fields t h. number_from part (Body K fields) set (now ++ byte ∷ []) n w t whole h;
    })

-- no section goes on
pub number_stops : (part : Part) (Body : Bounds → List Field → ℕ → ℕ → Text → Type 0) (now : List ℕ) (byte : ℕ) → IsUnfinished now
    → (K : Bounds) (set : Allowed) → ((fields : List Field) (n : ℕ) (w : Width) (y : Text) → n < limit_of w → Body K fields n (byte_count w) y → IsAllowed set (byte_count w) n)
    → (SomeBegins set (now ++ byte ∷ []) → ⊥) → HasNone (NumberText part Body now) K part byte
number_stops part Body now byte un K set only dead fields t h = number_dead part (Body K fields) set now byte t un (only fields) dead h

-- some section goes on
pub number_lives : (part : Part) (Body : Bounds → List Field → ℕ → ℕ → Text → Type 0) (now : List ℕ) (byte : ℕ)
    → (K : Bounds) (set : Allowed) → Continues (Body K) set → SomeBegins set (now ++ byte ∷ []) → HasSome (NumberText part Body now) K part byte
number_lives part Body now byte K set from live =
    let a = number_alive part (Body K) set (now ++ byte ∷ []) from live in
    record { fields = a.0; after = a.1; rest = subst (NumberThen part (Body K a.0)) (mark-snoc part now byte a.1) a.2 }

-- ---- what may follow in a phase, where the line and the lines are given by equations

pub rest_in : (phase : Phase) (p : Point) (line : Field) (s : Spot) → line_begun p.fields.making ≡ line → spot_of p ≡ s
    → AreSame (RestOf phase p) (λ L fields t. RestAt phase L s p.number line fields t)
rest_in phase p line s e f =
    subst (λ (x : Field). AreSame (RestOf phase p) (λ L fields t. RestAt phase L s p.number x fields t)) e
    (subst (λ (x : Spot). AreSame (RestOf phase p) (λ L fields t. RestAt phase L x p.number (line_begun p.fields.making) fields t)) f
    (record { forth = λ L fields t h. h; back = λ L fields t h. h }))

pub turned : (R S : Bounds → List Field → Text → Type 0) → AreSame R S → AreSame S R
turned R S h = record { forth = h.back; back = h.forth }

pub same_on : (R S T : Bounds → List Field → Text → Type 0) → AreSame R S → AreSame S T → AreSame R T
same_on R S T h k = record { forth = λ L fields t r. k.forth L fields t (h.forth L fields t r); back = λ L fields t r. h.back L fields t (k.back L fields t r) }

-- a step between two states, said of the line and the lines that are known
pub steps_in : (R S : Bounds → List Field → Text → Type 0) (now : Phase) (p : Point) (next : Phase) (q : Point) (part : Part) (byte : ℕ)
    → AreSame (RestOf now p) R → AreSame (RestOf next q) S → Steps R S part byte → Steps (RestOf now p) (RestOf next q) part byte
steps_in R S now p next q part byte e f s = record {
  forth = λ L fields t r. f.back L fields t (s.forth L fields t (e.forth L fields ((part, byte) ∷ t) r));
  back = λ L fields t r. e.back L fields ((part, byte) ∷ t) (s.back L fields t (f.forth L fields t r));
}

-- ---- the limits, as numbers

pub most_to : (p : Point) → IsSized p → (n : ℕ) → n ≤ greatest → IsWithin p.limits.section n → n ≤ most_of p.limits
most_to p z n g h = within_some p.limits.section (most_of p.limits) n z.most_is h

pub most_from : (p : Point) → IsSized p → (n : ℕ) → n ≤ most_of p.limits → IsWithin p.limits.section n
most_from p z n h = some_within p.limits.section (most_of p.limits) n z.most_is h

two_within : (p : Point) → IsSized p → IsWithin p.limits.part 2
two_within p z = some_within p.limits.part (part_of p.limits) 2 z.part_is (omega (arith, z.part_low))

room_of : (L : Bounds) (form : Form) (total used : ℕ) → IsBounded L form total → used ≤ total → RoomIs L form total used (Some (total - used))
room_of L Known total used b h = (refl, h, b)
room_of L Indeterminate total used b h = subst (λ (o : Option ℕ). RoomWithin o used (Some (total - used))) (sym b) (refl, h)

pub caps_of : (p : Point) → IsSized p → IsBounded p.limits p.form p.total → p.used ≤ p.total → Caps p.limits (spot_of p) (part_of p.limits) (Some (p.total - p.used))
caps_of p z b h = record {
  to = λ n g w. within_some p.limits.part (part_of p.limits) n z.part_is w;
  from = λ n w. some_within p.limits.part (part_of p.limits) n z.part_is w;
  low = omega (arith, z.part_low);
  room_is = room_of p.limits p.form p.total p.used b h;
}

room_free : (form : Form) (total used : ℕ) → used ≤ total → RoomIs no_bounds form total used (free_room form (total - used))
room_free Known total used h = (refl, h, tt)
room_free Indeterminate total used h = refl

pub caps_free : (p : Point) → p.used ≤ p.total → Caps no_bounds (spot_of p) greatest (free_room p.form (p.total - p.used))
caps_free p h = record {
  to = λ n g w. g;
  from = λ n w. tt;
  low = omega arith;
  room_is = room_free p.form p.total p.used h;
}

good_free : (L : Bounds) (place : Place) (fields : List Field) → AreGood L place fields → AreGood no_bounds place fields
good_free L place fields g = record { valid = g.valid; names = λ k d i. tt; values = λ k d i. tt }

-- ---- the part of the next byte

abbrev pub LengthAt : Point → Bounds → List Field → ℕ → ℕ → Text → Type 0
LengthAt p L fields n bytes t = LengthBody L (spot_of p) fields n bytes t

abbrev pub NamesAt : Point → Bounds → List Field → ℕ → ℕ → Text → Type 0
NamesAt p L fields n bytes t = NameBody L (spot_of p) fields n bytes t

abbrev pub ValuesAt : Point → List ℕ → Bounds → List Field → ℕ → ℕ → Text → Type 0
ValuesAt p name L fields n bytes t = ValueBody L (spot_of p) name fields n bytes t

lengths_from : (p : Point) → IsSized p → LengthState p → Continues (LengthAt p p.limits) (lines_set (most_of p.limits))
lengths_from p z h = length_from p.limits (spot_of p) (most_of p.limits) (most_from p z) (two_within p z) h.known h.unused h.good

pub lengths_free : (p : Point) → LengthState p → Continues (LengthAt p no_bounds) (lines_set greatest)
lengths_free p h = length_from no_bounds (spot_of p) greatest (λ n g. tt) tt h.known h.unused (good_free p.limits p.place p.fields.lines h.good)

names_from : (p : Point) → IsSized p → Between p → Continues (NamesAt p p.limits) (names_set p.form (part_of p.limits) (Some (p.total - p.used)))
names_from p z b = name_from p.limits (spot_of p) (part_of p.limits) (Some (p.total - p.used)) (caps_of p z b.bounded b.room) b.good

pub names_free : (p : Point) → Between p → Continues (NamesAt p no_bounds) (names_set p.form greatest (free_room p.form (p.total - p.used)))
names_free p b = name_from no_bounds (spot_of p) greatest (free_room p.form (p.total - p.used)) (caps_free p b.room) (good_free p.limits p.place p.fields.lines b.good)

values_from : (p : Point) (name value : List ℕ) → IsSized p → Valued p name value
    → Continues (ValuesAt p name p.limits) (values_set p.form (part_of p.limits) (Some (p.total - p.used)))
values_from p name value z v =
    value_from p.limits (spot_of p) (part_of p.limits) (Some (p.total - p.used)) name (caps_of p z v.bounded v.room) v.good v.behind v.within

pub values_free : (p : Point) (name value : List ℕ) → Valued p name value
    → Continues (ValuesAt p name no_bounds) (values_set p.form greatest (free_room p.form (p.total - p.used)))
values_free p name value v =
    value_from no_bounds (spot_of p) greatest (free_room p.form (p.total - p.used)) name (caps_free p v.room) (good_free p.limits p.place p.fields.lines v.good) v.behind tt

pub length_first : (p : Point) → IsSized p → LengthState p → HasFirst (RestOf phases.SectionLength p) p.limits parts.SectionLength
length_first p z h = number_first parts.SectionLength (LengthAt p) p.limits (lines_set (most_of p.limits)) p.number (lengths_from p z h) h.unfinished h.live

pub line_first : (p : Point) → IsSized p → LineState p → HasFirst (RestOf phases.NameLength p) p.limits parts.NameLength
line_first p z h =
    number_first parts.NameLength (NamesAt p) p.limits (names_set p.form (part_of p.limits) (Some (p.total - p.used))) p.number (names_from p z h.between) h.unfinished h.live

-- the line that is being made has this name, and this value
pub line_is : (p : Point) (name value : List ℕ) → p.fields.making ≡ making_of name value → line_begun p.fields.making ≡ line_of name value
line_is p name value e = ap line_begun e

pub first_in : (R S : Bounds → List Field → Text → Type 0) (L : Bounds) (part : Part) → AreSame R S → HasFirst S L part → HasFirst R L part
first_in R S L part e h = (h.0, record { fields = h.1.fields; after = h.1.after; rest = e.back L h.1.fields ((part, h.0) ∷ h.1.after) h.1.rest })

pub value_length_rest : (p : Point) (name value : List ℕ) → p.fields.making ≡ making_of name value → AreSame (RestOf phases.ValueLength p) (NumberText parts.ValueLength (ValuesAt p name) p.number)
value_length_rest p name value e = rest_in phases.ValueLength p (line_of name value) (spot_of p) (line_is p name value e) refl

pub value_length_first : (p : Point) → IsSized p → ValueLengthState p → HasFirst (RestOf phases.ValueLength p) p.limits parts.ValueLength
value_length_first p z h =
    first_in (RestOf phases.ValueLength p) (NumberText parts.ValueLength (ValuesAt p h.name) p.number) p.limits parts.ValueLength (value_length_rest p h.name [] h.valued.making)
    (number_first parts.ValueLength (ValuesAt p h.name) p.limits (values_set p.form (part_of p.limits) (Some (p.total - p.used))) p.number
    (values_from p h.name [] z h.valued) h.unfinished h.live)

-- a run of bytes that isn't empty has a first
first_of_run : (part : Part) (tail : List ℕ) (behind t : Text) → 0 < length tail → t ≡ mark part tail ++ behind → (byte : ℕ) × (rest : Text) × (t ≡ (part, byte) ∷ rest)
first_of_run part [] behind t some e = absurd (omega arith)
first_of_run part (byte ∷ tail) behind t some e = (byte, mark part tail ++ behind, e)

-- inside a name, and inside a value
abbrev pub NameAt : Point → List ℕ → ℕ → Bounds → List Field → Text → Type 0
NameAt p name missing L fields t = NameLeft L (spot_of p) name missing fields t

abbrev pub ValueAt : Point → List ℕ → List ℕ → ℕ → Bounds → List Field → Text → Type 0
ValueAt p name value missing L fields t = ValueLeft L (spot_of p) name value missing fields t

pub name_rest : (p : Point) (name value : List ℕ) (missing : ℕ) → p.fields.making ≡ making_of name value → AreSame (RestOf (phases.Name missing) p) (NameAt p name missing)
name_rest p name value missing e = rest_in (phases.Name missing) p (line_of name value) (spot_of p) (line_is p name value e) refl

pub value_rest_of : (p : Point) (name value : List ℕ) (missing : ℕ) (first : Bool) → p.fields.making ≡ making_of name value
    → AreSame (RestOf (phases.Value missing first) p) (ValueAt p name value missing)
value_rest_of p name value missing first e = rest_in (phases.Value missing first) p (line_of name value) (spot_of p) (line_is p name value e) refl

pub name_first : (p : Point) (missing : ℕ) → IsSized p → NameState p missing → HasFirst (RestOf (phases.Name missing) p) p.limits parts.Name
name_first p missing z h =
    let room : 1 ≤ p.total - p.used = omega (arith, h.room) in
    let o = name_opens p.limits (spot_of p) (part_of p.limits) (Some (p.total - p.used)) h.name missing (caps_of p z h.bounded (omega (arith, h.room))) room h.good
    (name_goes_on p.place p.fields.lines h.name missing p.flag h.flag h.kind) h.within in
    let f = first_of_run parts.Name o.2.tail o.2.behind o.1 (omega (arith, o.2.long, h.some)) o.2.spelled in
    first_in (RestOf (phases.Name missing) p) (NameAt p h.name missing) p.limits parts.Name (name_rest p h.name [] missing h.making)
    (f.0, record { fields = o.0; after = f.1; rest = subst (NameLeft p.limits (spot_of p) h.name missing o.0) {y = (parts.Name, f.0) ∷ f.1} f.2 o.2 })

pub value_first : (p : Point) (value : List ℕ) (missing : ℕ) (first : Bool) → IsSized p → InValue p value missing → 0 < missing
    → HasFirst (RestOf (phases.Value missing first) p) p.limits parts.Value
value_first p value missing first z h some =
    let v = h.valued in
    let o = value_opens p.limits (spot_of p) h.name value missing (two_within p z) v.good v.behind v.within (value_goes_on value missing h.kind) h.within h.can_end in
    let f = first_of_run parts.Value o.2.tail o.2.behind o.1 (omega (arith, o.2.long, some)) o.2.spelled in
    first_in (RestOf (phases.Value missing first) p) (ValueAt p h.name value missing) p.limits parts.Value (value_rest_of p h.name value missing first v.making)
    (f.0, record { fields = o.0; after = f.1; rest = subst (ValueLeft p.limits (spot_of p) h.name value missing o.0) {y = (parts.Value, f.0) ∷ f.1} f.2 o.2 })

pub first_at : (phase : Phase) (p : Point) → IsSized p → ReadingAt phase p → HasFirst (RestOf phase p) p.limits (part_at phase)
first_at phases.Idle p z h = absurd h
first_at phases.SectionLength p z h = length_first p z h
first_at phases.NameLength p z h = line_first p z h
first_at (phases.Name missing) p z h = name_first p missing z h
first_at phases.ValueLength p z h = value_length_first p z h
first_at (phases.Value missing first) p z h = value_first p h.value missing first z h.inside h.some
first_at phases.Whole p z h = absurd h
first_at phases.Refused p z h = absurd h
