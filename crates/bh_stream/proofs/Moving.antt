-- From state to state.
use Rattle.std.proofs.Common.{◌≡◌, ◌≤◌, ◌+◌, ◌⊎◌, ℕ, Bool, true, false, if◌then◌else◌, nat_eq, List, [], ◌∷◌, ◌++◌, length, map, refl, sym, ap, arith, inl, inr}
use Rattle.std.proofs.lemmas.List.{length-map}
use Rattle.bh_spec.specs.declared.Part.{Part}
use Rattle.bh_spec.specs.Parts.{number_of}
use Rattle.bh_spec.specs.Texts.{Text, bytes_of, content_in}
use Rattle.bh_spec.specs.Items.{Item, interim_response, head, content_byte, trailer_section, ending}
use Rattle.bh_spec.proofs.Marks.{content-append}
use Rattle.bh_stream.specs.Decoding.{content_items, Rest, IsAlive, Leads}
use Rattle.bh_stream.specs.Jobs.{counted}

pub items-append : (i j : List Item) → content_items (i ++ j) ≡ content_items i + content_items j
items-append [] j = omega arith
items-append ((interim_response status fields) ∷ i) j = items-append i j
items-append ((head of fields) ∷ i) j = items-append i j
items-append ((content_byte x) ∷ i) j = omega (arith, items-append i j)
items-append ((trailer_section fields) ∷ i) j = items-append i j
items-append ((ending omitted padding) ∷ i) j = items-append i j

pub items-map : (bytes : List ℕ) → content_items (map content_byte bytes) ≡ length bytes
items-map [] = refl
items-map (x ∷ bytes) = omega (arith, items-map bytes)

pub counted-append : (writes : Bool) (i j : List Item) → counted writes (i ++ j) ≡ counted writes i + counted writes j
counted-append true i j = items-append i j
counted-append false i j = omega arith

pub counted-few : (writes : Bool) (i : List Item) → counted writes i ≤ content_items i
counted-few true i = omega arith
counted-few false i = omega arith

pub bytes-length : (x : Text) → length (bytes_of x) ≡ length x
bytes-length x = length-map x (λ (b : Part × ℕ). b.1)

pub content-few : (x : Text) → content_in x ≤ length x
content-few [] = omega arith
content-few (b ∷ x) = omega (arith, content-few x, one (nat_eq (number_of b.0) 18))
  where
    one : (c : Bool) → (if c then 1 else 0) ≤ 1
    one true = omega arith
    one false = omega arith

module _ {V : Type 0} {rest : Rest V} {room : V → ℕ} (law : (v : V) (q : List Item) (t : Text) → rest v q t → content_in t ≡ content_items q) where
  module _ {v w : V} {x : List ℕ} {i : List Item} (h : Leads rest room v x i w) (alive : IsAlive rest w) where
    -- as much content was read as was handed out, and no more of it than bytes
    pub content_is : content_in h.residual.text ≡ content_items i
    content_is =
        omega (
          arith,
          law v (i ++ alive.0) (h.residual.text ++ alive.1) (h.residual.back alive.0 alive.1 alive.2),
          law w alive.0 alive.1 alive.2,
          content-append h.residual.text alive.1,
          items-append i alive.0,
        )

    pub few_items : content_items i ≤ length x
    few_items = omega (arith, content_is, content-few h.residual.text, ap length h.residual.same, bytes-length h.residual.text)

-- two fronts of one list, of which the first is no longer than the second
pub shorter : {A : Type 0} (a b c d : List A) → a ++ b ≡ c ++ d → length a ≤ length c → (m : List A) × (c ≡ a ++ m) × (b ≡ m ++ d)
shorter [] b c d e h = (c, refl, e)
shorter (x ∷ a) b [] d e h = absurd (omega arith)
shorter (x ∷ a) b (y ∷ c) d e h =
    let head : x ≡ y = cc in
    let tail : a ++ b ≡ c ++ d = cc in
    let s = shorter a b c d tail (omega (arith, h)) in
    (s.0, (λ i. (sym head) i ∷ s.1 i), s.2)

-- a front of two lists in a row is a front of the first, or the first and a front of the second
pub front_of_two : {A : Type 0} (xs ys front back : List A) → xs ++ ys ≡ front ++ back
    → ((more : List A) × (xs ≡ front ++ more)) ⊎ ((mid : List A) × (front ≡ xs ++ mid) × (ys ≡ mid ++ back))
front_of_two [] ys front back e = inr (front, refl, e)
front_of_two (x ∷ xs) ys [] back e = inl (x ∷ xs, refl)
front_of_two (x ∷ xs) ys (f ∷ front) back e =
    let head : x ≡ f = cc in
    let tail : xs ++ ys ≡ front ++ back = cc in
    on head (front_of_two xs ys front back tail)
  where
    on : x ≡ f → ((more : List _) × (xs ≡ front ++ more)) ⊎ ((mid : List _) × (front ≡ xs ++ mid) × (ys ≡ mid ++ back))
        → ((more : List _) × (x ∷ xs ≡ f ∷ front ++ more)) ⊎ ((mid : List _) × (f ∷ front ≡ x ∷ xs ++ mid) × (ys ≡ mid ++ back))
    on h (inl s) = inl (s.0, λ i. h i ∷ s.1 i)
    on h (inr s) = inr (s.0, (λ i. (sym h) i ∷ s.1 i), s.2)
