-- Content is judged byte by byte.
use Rattle.std.proofs.Common.{◌≡◌, ◌<◌, ◌≤◌, ◌+◌, ◌-◌, ◌⊎◌, inl, inr, ℕ, Bool, true, false, nat_lt, Some, None, List, [], ◌∷◌, ◌++◌, length, length-append, map, refl, sym, ◌∙◌, ap, subst, arith}
use Rattle.std.proofs.lemmas.Bool.{lt-ltb, le-ltb}
use Rattle.bh_spec.specs.declared.NoForm.{NoForm}
use Rattle.bh_spec.specs.declared.NoForm.TheVariants as no
use Rattle.bh_spec.specs.Items.{content_byte}
use Rattle.h1_spec.specs.declared.Framing1.{Framing1}
use Rattle.h1_spec.specs.declared.Framing1.TheVariants.{Empty, Counted, Chunked, ToEnd}
use Rattle.h1_spec.specs.Moments.{first_of}
use Rattle.h1_judge.specs.Courses.{Course, behind, item_form, AreFree}
use Rattle.h1_judge.specs.Judges.{IsCounting, IsShort, IsLastJudged, AreCounted}

abbrev at : Framing1 → ℕ → List (List ℕ) → Course
at f n named = record { framing = f; counted = n; named = named }

-- ---- one rule

pub first_off : (form : NoForm) (b : Bool) → b ≡ false → first_of ((form, b) ∷ []) ≡ None
first_off form false e = refl
first_off form true e = absurd (cc)

pub first_on : (form : NoForm) (b : Bool) → b ≡ true → first_of ((form, b) ∷ []) ≡ Some form
first_on form true e = refl
first_on form false e = absurd (cc)

-- ---- bytes of a counted body

free_within : (to_head : Bool) (field n : ℕ) (named : List (List ℕ)) (bytes : List ℕ) → n + length bytes ≤ field
    → AreFree to_head (at (Counted field) n named) (map content_byte bytes)
free_within to_head field n named [] h = tt
free_within to_head field n named (x ∷ bytes) h = (
  first_off (no.LengthDiffers field (field + 1)) (nat_lt field (n + 1)) (le-ltb field (n + 1) (omega (arith, h))),
  free_within to_head field (n + 1) named bytes (omega (arith, h)),
)

counted_within : (to_head : Bool) (field n : ℕ) (named : List (List ℕ)) (bytes : List ℕ)
    → behind to_head (at (Counted field) n named) (map content_byte bytes) ≡ at (Counted field) (n + length bytes) named
counted_within to_head field n named [] = ap (λ (k : ℕ). at (Counted field) k named) (omega arith)
counted_within to_head field n named (x ∷ bytes) = counted_within to_head field (n + 1) named bytes
    ∙ ap (λ (k : ℕ). at (Counted field) k named) (omega arith)

-- the bytes before the last
record Split (bytes : List ℕ) : Type 0 where
  front : List ℕ
  last : ℕ
  split : bytes ≡ front ++ last ∷ []
  long : length bytes ≡ length front + 1

split_last : (x : ℕ) (bytes : List ℕ) → Split (x ∷ bytes)
split_last x [] = record { front = []; last = x; split = refl; long = refl }
split_last x (y ∷ bytes) =
    let s = split_last y bytes in
    record { front = x ∷ s.front; last = s.last; split = ap (λ (l : List ℕ). x ∷ l) s.split; long = omega (arith, s.long) }

last_of : (bytes : List ℕ) → 0 < length bytes → Split bytes
last_of [] h = absurd (omega (arith, h))
last_of (x ∷ bytes) h = split_last x bytes

-- ---- what the calls answer

pub within : (to_head : Bool) (f : Framing1) (field n : ℕ) (named : List (List ℕ)) (bytes : List ℕ) → f ≡ Counted field → IsCounting f n
    → length bytes ≤ field - n → AreCounted to_head (at f n named) bytes (at f (n + length bytes) named)
within to_head f field n named bytes e = subst (λ (g : Framing1). IsCounting g n → length bytes ≤ field - n
    → AreCounted to_head (at g n named) bytes (at g (n + length bytes) named)) (sym e) (λ c few. record {
      free = free_within to_head field n named bytes (omega (arith, c.0, few));
      course = sym (counted_within to_head field n named bytes);
    })

pub too_far : (to_head : Bool) (f : Framing1) (field n : ℕ) (named : List (List ℕ)) (bytes : List ℕ) → f ≡ Counted field → IsCounting f n
    → IsShort f n (length bytes) → 0 < length bytes → field - n < length bytes
    → IsLastJudged to_head (at f n named) bytes (no.LengthDiffers field (field + 1))
too_far to_head f field n named bytes e = subst (λ (g : Framing1). IsCounting g n → IsShort g n (length bytes) → 0 < length bytes
    → field - n < length bytes → IsLastJudged to_head (at g n named) bytes (no.LengthDiffers field (field + 1))) (sym e)
    (λ c short some far.
    let s = last_of bytes some in
    let full : n + length s.front ≡ field = omega (arith, c.0, short, far, s.long) in
    record {
      front = s.front;
      last = s.last;
      split = s.split;
      free = free_within to_head field n named s.front (omega (arith, full));
      judged = subst (λ (d : Course). item_form d (content_byte s.last) ≡ Some (no.LengthDiffers field (field + 1)))
          (sym (counted_within to_head field n named s.front))
          (first_on (no.LengthDiffers field (field + 1)) (nat_lt field ((n + length s.front) + 1)) (lt-ltb field ((n + length s.front) + 1) (omega (arith, full))));
      far = λ long h. omega (arith, h, full, s.long);
    })

pub none_may : (to_head : Bool) (f : Framing1) (n : ℕ) (named : List (List ℕ)) (bytes : List ℕ) → f ≡ Empty → IsShort f n (length bytes)
    → 0 < length bytes → IsLastJudged to_head (at f n named) bytes no.Bodyless
none_may to_head f n named bytes e = subst (λ (g : Framing1). IsShort g n (length bytes) → 0 < length bytes
    → IsLastJudged to_head (at g n named) bytes no.Bodyless) (sym e)
    (λ short some.
    let s = last_of bytes some in
    record {
      front = [];
      last = s.last;
      split = s.split ∙ ap (λ (l : List ℕ). l ++ s.last ∷ []) (no_front s.front (omega (arith, s.long, short)));
      free = tt;
      judged = refl;
      far = λ long h. omega (arith, h, some);
    })
  where
    no_front : (l : List ℕ) → length l ≡ 0 → l ≡ []
    no_front [] h = refl
    no_front (x ∷ l) h = absurd (omega (arith, h))

chunked_free : (to_head : Bool) (n : ℕ) (named : List (List ℕ)) (bytes : List ℕ) → AreFree to_head (at Chunked n named) (map content_byte bytes)
chunked_free to_head n named [] = tt
chunked_free to_head n named (x ∷ bytes) = (refl, chunked_free to_head n named bytes)

chunked_same : (to_head : Bool) (n : ℕ) (named : List (List ℕ)) (bytes : List ℕ)
    → behind to_head (at Chunked n named) (map content_byte bytes) ≡ at Chunked n named
chunked_same to_head n named [] = refl
chunked_same to_head n named (x ∷ bytes) = chunked_same to_head n named bytes

to_end_free : (to_head : Bool) (n : ℕ) (named : List (List ℕ)) (bytes : List ℕ) → AreFree to_head (at ToEnd n named) (map content_byte bytes)
to_end_free to_head n named [] = tt
to_end_free to_head n named (x ∷ bytes) = (refl, to_end_free to_head n named bytes)

to_end_same : (to_head : Bool) (n : ℕ) (named : List (List ℕ)) (bytes : List ℕ)
    → behind to_head (at ToEnd n named) (map content_byte bytes) ≡ at ToEnd n named
to_end_same to_head n named [] = refl
to_end_same to_head n named (x ∷ bytes) = to_end_same to_head n named bytes

pub any_may : (to_head : Bool) (f : Framing1) (n : ℕ) (named : List (List ℕ)) (bytes : List ℕ) → (f ≡ Chunked) ⊎ (f ≡ ToEnd)
    → AreCounted to_head (at f n named) bytes (at f n named)
any_may to_head f n named bytes (inl e) = subst (λ (g : Framing1). AreCounted to_head (at g n named) bytes (at g n named)) (sym e)
    (record { free = chunked_free to_head n named bytes; course = sym (chunked_same to_head n named bytes) })
any_may to_head f n named bytes (inr e) = subst (λ (g : Framing1). AreCounted to_head (at g n named) bytes (at g n named)) (sym e)
    (record { free = to_end_free to_head n named bytes; course = sym (to_end_same to_head n named bytes) })
