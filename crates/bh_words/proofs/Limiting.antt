-- Limits from the values of their options.
use Rattle.std.proofs.Common.{◌≡◌, ◌∙◌, ◌↔◌, ℕ, refl, sym, ap, subst, Option, Some, None, codes, MatchOption, IfSome, IsSome, true, false}
use Rattle.bh_spec.specs.Bounds.{Bounds, default_bounds}
use Rattle.bh_model.specs.Ranges.{AreInRange, bounds_of}
use Rattle.bh_words.specs.Numbers.{IsGiven}
use Rattle.bh_words.specs.Settings.{Text}
use Rattle.bh_words.specs.Words.{AreGiven}

pub given_by : (text value : Option Text) (b : Option ℕ) (d n : ℕ) → text ≡ value → b ≡ Some d → IsGiven text (Some d) (Some n) → IsGiven value b (Some n)
given_by text value b d n e f h = subst (λ x. IsGiven value x (Some n)) (sym f) (subst (λ x. IsGiven x (Some d) (Some n)) e h)

some_same : (m n : ℕ) → Some m ≡ Some n → m ≡ n
some_same m n e = cc

-- one number is given
pub one_given : (value : Option Text) (default a b : Option ℕ) → IsGiven value default a → IsGiven value default b → a ≡ b
one_given None default a b h k = h ∙ sym k
one_given (Some text) default a b h k = h.2 ∙ ap Some (h.1.value ∙ sym k.1.value) ∙ sym k.2

same_range : (p s i n p2 s2 i2 n2 : ℕ) → AreInRange p s i n → Some p ≡ Some p2 → Some s ≡ Some s2 → Some i ≡ Some i2 → Some n ≡ Some n2 → AreInRange p2 s2 i2 n2
same_range p s i n p2 s2 i2 n2 range a b d e =
    let one : p ≡ p2 = cc in
    let two : s ≡ s2 = cc in
    let three : i ≡ i2 = cc in
    let four : n ≡ n2 = cc in
    record {
      part_low = rw one at range.part_low;
      part_high = rw one at range.part_high;
      section_low = rw two at range.section_low;
      section_high = rw two at range.section_high;
      interims_high = rw three at range.interims_high;
      input_low = rw four at range.input_low;
      input_high = rw four at range.input_high;
    }

module _ (value : Text → Option Text) (p s i n : ℕ) (part : IsGiven (value (codes "part")) default_bounds.part (Some p)) (section : IsGiven (value (codes "section")) default_bounds.section (Some s))
    (interims : IsGiven (value (codes "interims")) default_bounds.interims (Some i)) (input : IsGiven (value (codes "input")) default_bounds.input (Some n)) where
  in_range : (limits : Bounds) → AreGiven value limits → AreInRange p s i n
  in_range limits given =
      let v = given.valid in
      let e = v.same in
      same_range v.part v.section v.interims v.input p s i n v.range
      (ap (λ (b : Bounds). b.part) (sym e) ∙ one_given (value (codes "part")) default_bounds.part limits.part (Some p) given.part part)
      (ap (λ (b : Bounds). b.section) (sym e) ∙ one_given (value (codes "section")) default_bounds.section limits.section (Some s) given.section section)
      (ap (λ (b : Bounds). b.interims) (sym e) ∙ one_given (value (codes "interims")) default_bounds.interims limits.interims (Some i) given.interims interims)
      (ap (λ (b : Bounds). b.input) (sym e) ∙ one_given (value (codes "input")) default_bounds.input limits.input (Some n) given.input input)

  of_bounds : AreInRange p s i n → AreGiven value (bounds_of p s i n)
  of_bounds range = record {
    part = part;
    section = section;
    interims = interims;
    input = input;
    valid = record { part = p; section = s; interims = i; input = n; same = refl; range = range };
  }

  pub limits_given : (r : Option Bounds) → IsSome r ↔ AreInRange p s i n → IfSome r (λ limits. limits ≡ bounds_of p s i n) → MatchOption r ((limits : Bounds) → AreGiven value limits → ⊥) (AreGiven value)
  limits_given None range is = λ limits given. let bad : false ≡ true = range.1 (in_range limits given) in absurd cc
  limits_given (Some limits) range is = subst (AreGiven value) (sym is) (of_bounds (range.0 refl))
