-- Numbers at the front of bytes: each stands there once, and what a step says of them.
use Rattle.std.proofs.Common.{◌≡◌, ◌<◌, ◌⊎◌, inl, inr, arith, ℕ, List, [], ◌∷◌, ◌++◌, length, refl, sym, ap, ap₂, subst, ◌∙◌, append_assoc, append-nil}
use Rattle.std.proofs.lemmas.List.{length-append}
use Rattle.bh_spec.specs.declared.Width.{Width}
use Rattle.bh_spec.specs.declared.Allowed.{Allowed}
use Rattle.bh_spec.specs.Integers.{vi, limit_of, byte_count, IsAllowed, SomeBegins}
use Rattle.bh_spec.specs.Intervals.{width_of}
use Rattle.bh_spec.proofs.Numbers.{vi_form}
use Rattle.bh_spec.proofs.Widths.{length-vi}
use Rattle.bh_spec.proofs.Prefixes.{head_width, first_byte, front_width, lists_apart}
use Rattle.bh_varint.specs.Step.{IsWhole, IsUnfinished}

-- one number at most stands at the front of bytes
pub number_once : (m n : ℕ) (v w : Width) (x y : List ℕ) → m < limit_of v → n < limit_of w → vi m v ++ x ≡ vi n w ++ y → (m ≡ n) × (v ≡ w) × (x ≡ y)
number_once m n v w x y g h e =
    let f = first_byte v m in
    let whole : vi n w ++ y ≡ f.0 ∷ (f.1 ++ x) = sym e ∙ ap (λ (z : List ℕ). z ++ x) f.2 in
    let width : v ≡ w = sym (head_width v m f.0 f.1 g f.2) ∙ front_width w n f.0 (f.1 ++ x) y h whole in
    let both = lists_apart (vi m v) (vi n w) x y (length-vi m v ∙ ap byte_count width ∙ sym (length-vi n w)) e in
    let value : m ≡ n = subst (λ (u : Width). n < limit_of u → vi m v ≡ vi n u → m ≡ n) width (λ a b. vi_form v m n g a b) h both.0 in
    (value, width, both.1)

-- no byte yet
pub unfinished_nil : IsUnfinished []
unfinished_nil = record {
  none = λ n w more h e.
      let f = first_byte w n in
      let whole : f.0 ∷ (f.1 ++ more) ≡ [] = ap (λ (x : List ℕ). x ++ more) (sym f.2) ∙ e in
      absurd cc;
}

-- bytes of a number that are fewer than its width has
pub unfinished_part : (b : ℕ) (xs : List ℕ) → length (b ∷ xs) < byte_count (width_of b) → IsUnfinished (b ∷ xs)
unfinished_part b xs short = record {
  none = λ n w more h e.
      omega (arith, short, ap byte_count (front_width w n b xs more h e), ap length e, length-append (vi n w) more, length-vi n w);
}

-- a whole number is no part of one
pub whole_finished : (n : ℕ) (w : Width) (bytes : List ℕ) → n < limit_of w → vi n w ≡ bytes → IsUnfinished bytes → ⊥
whole_finished n w bytes h e part = part.none n w [] h (append-nil (vi n w) ∙ e)

-- a whole allowed number begins with its bytes
pub whole_begins : (set : Allowed) (bytes : List ℕ) (n : ℕ) (w : Width) → IsWhole set bytes n w → SomeBegins set bytes
whole_begins set bytes n w h = (n, w, (h.fits, ([], h.spelled ∙ sym (append-nil bytes))), h.allowed)

-- an allowed number that begins with a whole number is that number
pub begins_whole : (set : Allowed) (bytes : List ℕ) (n : ℕ) (w : Width) → n < limit_of w → vi n w ≡ bytes → SomeBegins set bytes → IsWhole set bytes n w
begins_whole set bytes n w h e s =
    let more = s.2.1.0 in
    let same = number_once s.0 n s.1 w [] more s.2.0 h (append-nil (vi s.0 s.1) ∙ s.2.1.1 ∙ ap (λ (x : List ℕ). x ++ more) (sym e)) in
    record {
      fits = h;
      spelled = e;
      allowed = subst (λ (x : ℕ). IsAllowed set (byte_count w) x) same.0 (subst (λ (u : Width). IsAllowed set (byte_count u) s.0) same.1 s.3);
    }

-- of two fronts of one list one begins the other
shorter : (x more now after : List ℕ) → x ++ more ≡ now ++ after
    → ((rest : List ℕ) × (x ≡ now ++ rest) × (after ≡ rest ++ more)) ⊎ ((rest : List ℕ) × (now ≡ x ++ rest) × (more ≡ rest ++ after))
shorter x more [] after e = inl (x, refl, sym e)
shorter [] more (c ∷ now) after e = inr (c ∷ now, refl, e)
shorter (b ∷ x) more (c ∷ now) after e =
    let tail : x ++ more ≡ now ++ after = cc in
    let head : b ≡ c = cc in
    elim (shorter x more now after tail) [
      | inl p ↦ inl (p.0, ap₂ (λ (a : ℕ) (y : List ℕ). a ∷ y) head p.1, p.2)
      | inr p ↦ inr (p.0, ap₂ (λ (a : ℕ) (y : List ℕ). a ∷ y) (sym head) p.1, p.2)
    ]

-- ---- for a reader that passes on each byte

-- Behind bytes that are no whole number, a number that stands at the front goes on.
pub front_unfinished : (now after more : List ℕ) (n : ℕ) (w : Width) → IsUnfinished now → n < limit_of w → vi n w ++ more ≡ now ++ after
    → (rest : List ℕ) × (vi n w ≡ now ++ rest) × (after ≡ rest ++ more)
front_unfinished now after more n w part h e =
    elim (shorter (vi n w) more now after e) [
      | inl p ↦ (p.0, p.1, p.2)
      | inr p ↦ absurd (part.none n w p.0 h (sym p.1))
    ]

-- Behind `Dead` no allowed number stands at the front.
pub front_dead : (set : Allowed) (now after more : List ℕ) (byte n : ℕ) (w : Width) → IsUnfinished now → (SomeBegins set (now ++ byte ∷ []) → ⊥)
    → n < limit_of w → IsAllowed set (byte_count w) n → vi n w ++ more ≡ now ++ (byte ∷ after) → ⊥
front_dead set now after more byte n w part dead h allowed e =
    let p = front_unfinished now (byte ∷ after) more n w part h e in
    at p.0 p.1 p.2
  where
    at : (rest : List ℕ) → vi n w ≡ now ++ rest → byte ∷ after ≡ rest ++ more → ⊥
    at [] f g = part.none n w [] h (append-nil (vi n w) ∙ f ∙ append-nil now)
    at (x ∷ rest) f g =
        let same : x ≡ byte = cc in
        dead (n, w, (h, (rest, f ∙ ap (λ (y : ℕ). now ++ (y ∷ rest)) same ∙ sym (append_assoc now (byte ∷ []) rest))), allowed)
