-- The texts of lines say all of them.
use Rattle.std.proofs.Common.{◌≡◌, ◌≢◌, ◌∙◌, ◌<◌, ◌+◌, ◌*◌, ◌/◌, ◌%◌, ◌^◌, ◌-◌, ℕ, zero, suc, Bool, true, false, refl, sym, ap, ap₂, List, [], ◌∷◌, ◌++◌, flat_map, arith, append_assoc, codes, slice_index, inl, inr}
use Rattle.std.proofs.lemmas.Bool.{and_parts, cases_lt, eqb-true}
use Rattle.std.specs.Bool.{if◌then◌else◌}
use Rattle.std.specs.Prelude.{◌==◌, ◌&&◌, nat_lt}
use Rattle.std.specs.List.{list_all, AllByRecursion}
use Rattle.std.proofs.lemmas.List.{append_cancel_right, append_cancel_left}
use Rattle.std.proofs.lemmas.Fmt.{decimal_injective}
use Rattle.std.specs.Fmt.{decimal}
use Rattle.bh_spec.specs.Messages.{Field}
use Rattle.bh_spec.specs.Listing.{digit, hex, is_quotable, value_text, Line, a_request, a_response, method, scheme, authority, path, interim, status, field, content, trailer, the_end, text_of}

-- the texts up to the first of a byte that they don't have
pub until : (stop : ℕ) (x y r s : List ℕ) → AllByRecursion (λ b. b ≢ stop) x → AllByRecursion (λ b. b ≢ stop) y → x ++ (stop ∷ r) ≡ y ++ (stop ∷ s) → (x ≡ y) × (r ≡ s)
until stop [] [] r s ax ay e = (refl, (cc))
until stop [] (b ∷ y) r s ax ay e = let same : b ≡ stop = cc in absurd (ay.0 same)
until stop (a ∷ x) [] r s ax ay e = let same : a ≡ stop = cc in absurd (ax.0 same)
until stop (a ∷ x) (b ∷ y) r s ax ay e =
    let head : a ≡ b = cc in
    let tail : x ++ (stop ∷ r) ≡ y ++ (stop ∷ s) = cc in
    let rest = until stop x y r s ax.1 ay.1 tail in
    (ap₂ (λ z zs. z ∷ zs) head rest.0, rest.1)

-- lines, each of which ends with a line feed
pub same_lines : (xs ys : List (List ℕ)) → AllByRecursion (AllByRecursion (λ b. b ≢ 10)) xs → AllByRecursion (AllByRecursion (λ b. b ≢ 10)) ys
    → flat_map (λ x. x ++ (10 ∷ [])) xs ≡ flat_map (λ x. x ++ (10 ∷ [])) ys → xs ≡ ys
same_lines [] [] ax ay e = refl
same_lines [] (y ∷ ys) ax ay e = absurd (never_empty y (flat_map (λ x. x ++ (10 ∷ [])) ys) (sym e))
  where
    never_empty : (y rest : List ℕ) → (y ++ (10 ∷ [])) ++ rest ≡ [] → ⊥
    never_empty [] rest e = absurd cc
    never_empty (b ∷ y) rest e = absurd cc
same_lines (x ∷ xs) [] ax ay e = absurd (never_empty x (flat_map (λ x. x ++ (10 ∷ [])) xs) e)
  where
    never_empty : (y rest : List ℕ) → (y ++ (10 ∷ [])) ++ rest ≡ [] → ⊥
    never_empty [] rest e = absurd cc
    never_empty (b ∷ y) rest e = absurd cc
same_lines (x ∷ xs) (y ∷ ys) ax ay e =
    let one = until 10 x y (flat_map (λ x. x ++ (10 ∷ [])) xs) (flat_map (λ x. x ++ (10 ∷ [])) ys) ax.0 ay.0
    (sym (append_assoc x (10 ∷ []) (flat_map (λ x. x ++ (10 ∷ [])) xs)) ∙ (e ∙ append_assoc y (10 ∷ []) (flat_map (λ x. x ++ (10 ∷ [])) ys))) in
    ap₂ (λ z zs. z ∷ zs) one.0 (same_lines xs ys ax.1 ay.1 one.1)

-- ---- hexadecimal digits

-- the value of a digit, and the test of the first places of the table, which computes
abbrev value : ℕ → ℕ
value byte = if nat_lt byte 58 then byte - 48 else byte - 87

abbrev read_back : ℕ → Bool
read_back zero = true
read_back (suc n) = (value (digit n) == n) && read_back n

at_place : (n k : ℕ) → read_back n ≡ true → k < n → value (digit k) ≡ k
at_place zero k h lt = absurd (omega arith)
at_place (suc n) k h lt =
    let parts = and_parts (value (digit n) == n) (read_back n) h in
    elim (cases_lt k n) [
      | inl below ↦ at_place n k parts.1 below
      | inr top ↦
          let e : k ≡ n = omega arith in
          rw e (eqb-true (value (digit n)) n parts.0)
    ]

same_digit : (a b : ℕ) → a < 16 → b < 16 → digit a ≡ digit b → a ≡ b
same_digit a b x y e = sym (at_place 16 a refl x) ∙ ap value e ∙ at_place 16 b refl y

same_byte : (a b : ℕ) → a / 16 ≡ b / 16 → a % 16 ≡ b % 16 → a ≡ b
same_byte a b x y = omega arith

pub same_hex : (a b : List ℕ) → AllByRecursion (λ x. x < 256) a → AllByRecursion (λ x. x < 256) b → hex a ≡ hex b → a ≡ b
same_hex [] [] ha hb e = refl
same_hex [] (b ∷ ys) ha hb e = absurd cc
same_hex (a ∷ xs) [] ha hb e = absurd cc
same_hex (a ∷ xs) (b ∷ ys) ha hb e =
    let high : digit (a / 16) ≡ digit (b / 16) = cc in
    let low : digit (a % 16) ≡ digit (b % 16) = cc in
    let tail : hex xs ≡ hex ys = cc in
    let small = ha.0 in
    let small2 = hb.0 in
    let top = same_digit (a / 16) (b / 16) (omega arith) (omega arith) high in
    let bottom = same_digit (a % 16) (b % 16) (omega arith) (omega arith) low in
    ap₂ (λ z zs. z ∷ zs) (same_byte a b top bottom) (same_hex xs ys ha.1 hb.1 tail)

pub same_value : (v w : List ℕ) → AllByRecursion (λ x. x < 256) v → AllByRecursion (λ x. x < 256) w → value_text v ≡ value_text w → v ≡ w
same_value v w hv hw e = go (list_all is_quotable v) (list_all is_quotable w) e
  where
    go : (p q : Bool) → (if p then codes "\"" ++ (v ++ codes "\"") else codes "hex:" ++ hex v) ≡ (if q then codes "\"" ++ (w ++ codes "\"") else codes "hex:" ++ hex w) → v ≡ w
    go true true e = let inner : v ++ codes "\"" ≡ w ++ codes "\"" = cc in append_cancel_right v w (codes "\"") inner
    go true false e = let bad : ◌≡◌ {A = ℕ} 34 104 = ap (λ (t : List ℕ). slice_index t 0) e in absurd (omega arith)
    go false true e = let bad : ◌≡◌ {A = ℕ} 104 34 = ap (λ (t : List ℕ). slice_index t 0) e in absurd (omega arith)
    go false false e = let inner : hex v ≡ hex w = cc in same_hex v w hv hw inner

-- ---- lines whose texts can be told apart
abbrev pub Avoids : ℕ → List ℕ → Type 0
Avoids stop = AllByRecursion (λ b. b ≢ stop)

abbrev pub Below : ℕ → List ℕ → Type 0
Below most = AllByRecursion (λ b. b < most)

abbrev pub IsGoodField : Field → Type 0
IsGoodField f = Avoids 32 f.name × Below 256 f.value

abbrev pub IsGood : Line → Type 0
IsGood (interim n) = n < 2 ^ 64
IsGood (status n) = n < 2 ^ 64
IsGood (field f) = IsGoodField f
IsGood (trailer f) = IsGoodField f
IsGood (content bytes) = Below 256 bytes
IsGood l = Unit {0}

-- the first three bytes of a line
abbrev tag : List ℕ → ℕ
tag t = slice_index t 0 * 65536 + slice_index t 1 * 256 + slice_index t 2

same_field : (f g : Field) → IsGoodField f → IsGoodField g → f.name ++ (32 ∷ value_text f.value) ≡ g.name ++ (32 ∷ value_text g.value) → f ≡ g
same_field f g hf hg e =
    let one = until 32 f.name g.name (value_text f.value) (value_text g.value) hf.0 hg.0 e in
    ap₂ (λ (x y : List ℕ). record { name = x; value = y }) one.0 (same_value f.value g.value hf.1 hg.1 one.1)

pub same_line : (a b : Line) → IsGood a → IsGood b → text_of a ≡ text_of b → a ≡ b
same_line a_request a_request ga gb e = refl
same_line a_request other ga gb e = absurd (omega (arith, ap tag e))
same_line a_response a_response ga gb e = refl
same_line a_response other ga gb e = absurd (omega (arith, ap tag e))
same_line (method x) (method y) ga gb e = ap method (append_cancel_left (codes "method ") x y e)
same_line (method x) other ga gb e = absurd (omega (arith, ap tag e))
same_line (scheme x) (scheme y) ga gb e = ap scheme (append_cancel_left (codes "scheme ") x y e)
same_line (scheme x) other ga gb e = absurd (omega (arith, ap tag e))
same_line (authority x) (authority y) ga gb e = ap authority (append_cancel_right x y (codes "\"") (append_cancel_left (codes "authority \"") (x ++ codes "\"") (y ++ codes "\"") e))
same_line (authority x) other ga gb e = absurd (omega (arith, ap tag e))
same_line (path x) (path y) ga gb e = ap path (append_cancel_right x y (codes "\"") (append_cancel_left (codes "path \"") (x ++ codes "\"") (y ++ codes "\"") e))
same_line (path x) other ga gb e = absurd (omega (arith, ap tag e))
same_line (interim x) (interim y) ga gb e = ap interim (decimal_injective x y ga gb (append_cancel_left (codes "interim ") (decimal x) (decimal y) e))
same_line (interim x) other ga gb e = absurd (omega (arith, ap tag e))
same_line (status x) (status y) ga gb e = ap status (decimal_injective x y ga gb (append_cancel_left (codes "status ") (decimal x) (decimal y) e))
same_line (status x) other ga gb e = absurd (omega (arith, ap tag e))
same_line (field f) (field g) ga gb e = ap field (same_field f g ga gb (append_cancel_left (codes "field ") (f.name ++ (32 ∷ value_text f.value)) (g.name ++ (32 ∷ value_text g.value)) e))
same_line (field f) other ga gb e = absurd (omega (arith, ap tag e))
same_line (content x) (content y) ga gb e = ap content (same_hex x y ga gb (append_cancel_left (codes "content ") (hex x) (hex y) e))
same_line (content x) other ga gb e = absurd (omega (arith, ap tag e))
same_line (trailer f) (trailer g) ga gb e = ap trailer (same_field f g ga gb (append_cancel_left (codes "trailer ") (f.name ++ (32 ∷ value_text f.value)) (g.name ++ (32 ∷ value_text g.value)) e))
same_line (trailer f) other ga gb e = absurd (omega (arith, ap tag e))
same_line the_end the_end ga gb e = refl
same_line the_end other ga gb e = absurd (omega (arith, ap tag e))
