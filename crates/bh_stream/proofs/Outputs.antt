-- Outputs, their bytes and their content.
use Rattle.std.proofs.Common.{◌≡◌, ◌+◌, ℕ, if◌then◌else◌, nat_eq, List, [], ◌∷◌, ◌++◌, length, refl, ◌∙◌, ap, ap₂, arith, append_assoc}
use Rattle.std.proofs.lemmas.List.{map-append}
use Rattle.bh_spec.specs.declared.Part.{Part}
use Rattle.bh_spec.specs.declared.Part.TheVariants as parts
use Rattle.bh_spec.specs.Parts.{number_of}
use Rattle.bh_spec.specs.Texts.{Text, mark, bytes_of, content_in}
use Rattle.bh_stream.specs.Outputs.{Output, written, shown_in, weighed, plain, shown}
use Rattle.bh_stream.specs.Logs.{Begins}

pub written-append : (x y : Output) → written (x ++ y) ≡ written x ++ written y
written-append x y = map-append (λ (b : ℕ × ℕ). b.1) x y

pub shown-append : (x y : Output) → shown_in (x ++ y) ≡ shown_in x + shown_in y
shown-append [] y = omega arith
shown-append (b ∷ x) y = omega (arith, shown-append x y)

-- the front of an output whose bytes are these
pub front_of : (t : Output) (b after : List ℕ) → written t ≡ b ++ after → (x r : Output) × (t ≡ x ++ r) × (written x ≡ b) × (written r ≡ after)
front_of t [] after e = ([], t, refl, refl, e)
front_of [] (x ∷ b) after e = absurd (cc)
front_of (c ∷ t) (x ∷ b) after e =
    let head : c.1 ≡ x = cc in
    let tail : written t ≡ b ++ after = cc in
    let f = front_of t b after tail in
    (c ∷ f.0, f.1, ap (λ (l : Output). c ∷ l) f.2, (λ i. head i ∷ f.3 i), f.4)

-- lists with one beginning
pub begins_more : {A : Type 0} (a b c : List A) → Begins a b → Begins b c → Begins a c
begins_more a b c h k = record { rest = h.rest ++ k.rest; split = k.split ∙ ap (λ (l : List _). l ++ k.rest) h.split ∙ append_assoc a h.rest k.rest }

pub begins_written : (a b : Output) → Begins a b → Begins (written a) (written b)
begins_written a b h = record { rest = written h.rest; split = ap written h.split ∙ written-append a h.rest }

-- ---- texts

pub weighed_bytes : (t : Text) → written (weighed t) ≡ bytes_of t
weighed_bytes [] = refl
weighed_bytes (x ∷ t) = ap (λ (l : List ℕ). x.1 ∷ l) (weighed_bytes t)

pub weighed_content : (t : Text) → shown_in (weighed t) ≡ content_in t
weighed_content [] = refl
weighed_content (x ∷ t) = omega (arith, weighed_content t)

pub weighed-append : (x y : Text) → weighed (x ++ y) ≡ weighed x ++ weighed y
weighed-append [] y = refl
weighed-append (b ∷ x) y = ap (λ (l : Output). weighed (b ∷ []) ++ l) (weighed-append x y)

-- without content, and all of it content
pub weighed_plain : (t : Text) → content_in t ≡ 0 → weighed t ≡ plain (bytes_of t)
weighed_plain [] e = refl
weighed_plain (x ∷ t) e =
    let one : ◌≡◌ {A = ℕ} (if nat_eq (number_of x.0) 18 then 1 else 0) 0 = omega (arith, e) in
    ap₂ (λ (n : ℕ) (l : Output). let b : ℕ × ℕ = (n, x.1) in b ∷ l) one (weighed_plain t (omega (arith, e)))

pub weighed_shown : (x : List ℕ) → weighed (mark parts.Content x) ≡ shown x
weighed_shown [] = refl
weighed_shown (b ∷ x) = ap (λ (l : Output). shown (b ∷ []) ++ l) (weighed_shown x)

-- a front of a weighed text is a weighed front
pub weighed_front : (t : Text) (front more : Output) → weighed t ≡ front ++ more → (x y : Text) × (t ≡ x ++ y) × (weighed x ≡ front) × (weighed y ≡ more)
weighed_front t [] more e = ([], t, refl, refl, e)
weighed_front [] (b ∷ front) more e = absurd (cc)
weighed_front (c ∷ t) (b ∷ front) more e =
    let one : ℕ × ℕ = ((if nat_eq (number_of c.0) 18 then 1 else 0), c.1) in
    let head : one ≡ b = cc in
    let tail : weighed t ≡ front ++ more = cc in
    let r = weighed_front t front more tail in
    (c ∷ r.0, r.1, in_front c t (r.0 ++ r.1) r.2, (λ i. head i ∷ r.3 i), r.4)
  where
    in_front : (c : Part × ℕ) (t u : Text) → t ≡ u → c ∷ t ≡ c ∷ u
    in_front c t u e = ap (λ (l : Text). c ∷ l) e

-- ---- bytes that are no content, and bytes that are

pub written_plain : (x : List ℕ) → written (plain x) ≡ x
written_plain [] = refl
written_plain (b ∷ x) = ap (λ (l : List ℕ). b ∷ l) (written_plain x)

pub written_shown : (x : List ℕ) → written (shown x) ≡ x
written_shown [] = refl
written_shown (b ∷ x) = ap (λ (l : List ℕ). b ∷ l) (written_shown x)

pub shown_plain : (x : List ℕ) → shown_in (plain x) ≡ 0
shown_plain [] = refl
shown_plain (b ∷ x) = omega (arith, shown_plain x)

pub shown_shown : (x : List ℕ) → shown_in (shown x) ≡ length x
shown_shown [] = refl
shown_shown (b ∷ x) = omega (arith, shown_shown x)
