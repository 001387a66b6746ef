-- Lines of any number of bytes from three on, and how long lines are.
use Rattle.std.proofs.Common.{◌≡◌, ◌<◌, ◌≤◌, ◌+◌, ◌-◌, ◌*◌, ◌/◌, ◌%◌, ◌⊎◌, arith, ℕ, zero, suc, IsTrue, List, [], ◌∷◌, ◌++◌, length, All, codes, refl, sym, ap, subst, inl, inr}
use Rattle.std.proofs.lemmas.List.{length-append, length-map}
use Rattle.std.proofs.lemmas.List.Elements.{All-nil, All-cons, All-from_recursion}
use Rattle.std.proofs.lemmas.Bool.{cases_lt}
use Rattle.bh_spec.specs.declared.Part.TheVariants as parts
use Rattle.bh_spec.specs.declared.Width.TheVariants.{One}
use Rattle.bh_spec.specs.Integers.{vi}
use Rattle.bh_spec.specs.Bounds.{Bounds, IsWithin}
use Rattle.bh_spec.specs.Bytes.{is_token, is_value}
use Rattle.bh_spec.specs.Messages.{Field, IsValue, IsRegularField}
use Rattle.bh_spec.specs.Texts.{Text, mark, AreEach}
use Rattle.bh_spec.specs.Sections.{IsLine}
use Rattle.bh_spec.proofs.Marks.{length-mark}
use Rattle.bh_spec.proofs.Within.{within_less}
use Rattle.bh_spec.proofs.Sections.{number_nonempty, IsNamed}
use Rattle.bh_spec.proofs.Cases.{a_string}

abbrev three : List ℕ → Field
three value = record { name = codes "a"; value = value }

three_valid : (value : List ℕ) → IsValue value → IsRegularField (three value)
three_valid value h = record { name = record { nonempty = omega arith; each = All-from_recursion (λ byte. IsTrue (is_token byte)) (codes "a") (refl, tt) }; lower_case = refl; value = h }

none_valid : IsValue []
none_valid = record { each = All-nil _; first = refl; last = refl }

one_valid : IsValue (codes "b")
one_valid = record { each = All-from_recursion (λ byte. IsTrue (is_value byte)) (codes "b") (refl, tt); first = refl; last = refl }

two_valid : IsValue (codes "bb")
two_valid = record { each = All-from_recursion (λ byte. IsTrue (is_value byte)) (codes "bb") (refl, (refl, tt)); first = refl; last = refl }

-- fields whose lines have so many bytes
pub record Made (L : Bounds) (n : ℕ) : Type 0 where
  pub fields : List Field
  pub text : Text
  pub valid : All IsRegularField fields
  pub lines : AreEach IsLine fields text
  pub names : All (λ field. IsWithin L.part (length field.name)) fields
  pub values : All (λ field. IsWithin L.part (length field.value)) fields
  pub long : length text ≡ n

line_text : (value : List ℕ) → length value < 64 → (t : Text) × IsLine (three value) t × (length t ≡ 3 + length value)
line_text value h = (
  (mark parts.NameLength (1 ∷ []) ++ mark parts.Name (codes "a")) ++ (mark parts.ValueLength (vi (length value) One) ++ mark parts.Value value),
  (codes "a", refl, (_, _, a_string parts.NameLength parts.Name (codes "a") (omega arith), a_string parts.ValueLength parts.Value value h, refl)),
  omega (arith, length-mark parts.Value value),
)

one_more : (L : Bounds) (n : ℕ) (value : List ℕ) → IsValue value → length value ≤ 2 → IsWithin L.part 2 → Made L n → Made L (3 + length value + n)
one_more L n value v short' within rest =
    let t = line_text value (omega arith) in
    record {
      fields = three value ∷ rest.fields;
      text = t.0 ++ rest.text;
      valid = All-cons IsRegularField (three value) rest.fields (three_valid value v) rest.valid;
      lines = (t.0, rest.text, t.1, rest.lines, refl);
      names = All-cons (λ field. IsWithin L.part (length field.name)) (three value) rest.fields (within_less L.part 1 2 (omega arith) within) rest.names;
      values = All-cons (λ field. IsWithin L.part (length field.value)) (three value) rest.fields (within_less L.part (length value) 2 short' within) rest.values;
      long = omega (arith, length-append t.0 rest.text, t.2, rest.long);
    }

nothing_made : (L : Bounds) → Made L 0
nothing_made L = record { fields = []; text = []; valid = All-nil _; lines = refl; names = All-nil _; values = All-nil _; long = refl }

-- 3 and no more, once more, or a line of 3, 4 or 5 bytes as the last
threes : (L : Bounds) (k : ℕ) (n : ℕ) → IsWithin L.part 2 → Made L n → Made L (3 * k + n)
threes L zero n within made = subst (Made L) (omega arith) made
threes L (suc k) n within made =
    subst (Made L) (omega arith) (one_more L (3 * k + n) [] none_valid (omega arith) within (threes L k n within made))

pub made : (L : Bounds) (n : ℕ) → IsWithin L.part 2 → (n ≡ 0) ⊎ (3 ≤ n) → Made L n
made L n within (inl e) = subst (Made L) (sym e) (nothing_made L)
made L n within (inr h) =
    elim (cases_lt (n % 3) 1) [
      | inl a ↦ subst (Made L) (omega arith) (threes L (n / 3) 0 within (nothing_made L))
      | inr a ↦ elim (cases_lt (n % 3) 2) [
        | inl b ↦ subst (Made L) (omega arith) (threes L (n / 3 - 1) 4 within (one_more L 0 (codes "b") one_valid (omega arith) within (nothing_made L)))
        | inr b ↦ subst (Made L) (omega arith) (threes L (n / 3 - 1) 5 within (one_more L 0 (codes "bb") two_valid (omega arith) within (nothing_made L)))
      ]
    ]

-- and lines have 3 bytes or more
line_long : (f : Field) (t : Text) → IsNamed f → IsLine f t → 3 ≤ length t
line_long f t named h =
    let name = h.2.2 in
    let value = h.2.3 in
    omega (
      arith,
      ap length h.2.4,
      length-append h.2.0 h.2.1,
      ap length name.4,
      length-append name.0 name.1,
      number_nonempty parts.NameLength (length h.0) name.0 name.2,
      ap length value.4,
      length-append value.0 value.1,
      number_nonempty parts.ValueLength (length f.value) value.0 value.2,
      ap length name.3,
      length-mark parts.Name h.0,
      named,
      simp length-map at (ap length h.1),
    )

pub lines_long : (fs : List Field) (t : Text) → All IsNamed fs → AreEach IsLine fs t → (length t ≡ 0) ⊎ (3 ≤ length t)
lines_long [] t named h = inl (ap length h)
lines_long (f ∷ fs) t named h = inr (omega (arith, ap length h.4, length-append h.0 h.1, line_long f h.0 (named 0 f (omega arith)) h.2))
