-- Widths of integers.
use Rattle.std.proofs.Common.{◌≡◌, ◌<◌, ◌≤◌, arith, ℕ, length, refl, inl, inr}
use Rattle.std.proofs.lemmas.Bool.{cases_lt, lt-ltb, le-ltb}
use Rattle.bh_spec.specs.declared.Width.{Width}
use Rattle.bh_spec.specs.declared.Width.TheVariants.{One, Two, Four, Eight}
use Rattle.bh_spec.specs.Integers.{int, vi, limit_of, byte_count, least_width}
use Rattle.bh_spec.specs.Canonical.{greatest}

least_one : (n : ℕ) → n < 64 → least_width n ≡ One
least_one n h = rw (lt-ltb n 64 h) refl

least_two : (n : ℕ) → 64 ≤ n → n < 16384 → least_width n ≡ Two
least_two n g h = rw (le-ltb n 64 g, lt-ltb n 16384 h) refl

least_four : (n : ℕ) → 16384 ≤ n → n < 1073741824 → least_width n ≡ Four
least_four n g h = rw (le-ltb n 64 (omega arith), le-ltb n 16384 g, lt-ltb n 1073741824 h) refl

least_eight : (n : ℕ) → 1073741824 ≤ n → least_width n ≡ Eight
least_eight n g = rw (le-ltb n 64 (omega arith), le-ltb n 16384 (omega arith), le-ltb n 1073741824 g) refl

-- the least width can hold the number, and no smaller one can
pub least_fits : (n : ℕ) → n ≤ greatest → n < limit_of (least_width n)
least_fits n h =
    elim (cases_lt n 64) [
      | inl a ↦ rw (least_one n a) a
      | inr a ↦ elim (cases_lt n 16384) [
        | inl b ↦ rw (least_two n a b) b
        | inr b ↦ elim (cases_lt n 1073741824) [
          | inl c ↦ rw (least_four n b c) c
          | inr c ↦ rw (least_eight n c) (omega arith)
        ]
      ]
    ]

pub least_is_least : (w : Width) (n : ℕ) → n < limit_of w → byte_count (least_width n) ≤ byte_count w
least_is_least One n h = rw (least_one n h) (omega arith)
least_is_least Two n h =
    elim (cases_lt n 64) [
      | inl a ↦ rw (least_one n a) (omega arith)
      | inr a ↦ rw (least_two n a h) (omega arith)
    ]
least_is_least Four n h =
    elim (cases_lt n 64) [
      | inl a ↦ rw (least_one n a) (omega arith)
      | inr a ↦ elim (cases_lt n 16384) [
        | inl b ↦ rw (least_two n a b) (omega arith)
        | inr b ↦ rw (least_four n b h) (omega arith)
      ]
    ]
least_is_least Eight n h =
    elim (cases_lt n 64) [
      | inl a ↦ rw (least_one n a) (omega arith)
      | inr a ↦ elim (cases_lt n 16384) [
        | inl b ↦ rw (least_two n a b) (omega arith)
        | inr b ↦ elim (cases_lt n 1073741824) [
          | inl c ↦ rw (least_four n b c) (omega arith)
          | inr c ↦ rw (least_eight n c) (omega arith)
        ]
      ]
    ]

pub length-vi : (n : ℕ) (w : Width) → length (vi n w) ≡ byte_count w
length-vi n One = refl
length-vi n Two = refl
length-vi n Four = refl
length-vi n Eight = refl

pub count_1 : (w : Width) → 1 ≤ byte_count w
count_1 One = omega arith
count_1 Two = omega arith
count_1 Four = omega arith
count_1 Eight = omega arith

-- an integer has a byte at least
pub int_some : (n : ℕ) → 0 < length (int n)
int_some n = omega (arith, length-vi n (least_width n), count_1 (least_width n))

pub count_8 : (w : Width) → byte_count w ≤ 8
count_8 One = omega arith
count_8 Two = omega arith
count_8 Four = omega arith
count_8 Eight = omega arith

pub fits_greatest : (w : Width) (n : ℕ) → n < limit_of w → n ≤ greatest
fits_greatest One n h = omega arith
fits_greatest Two n h = omega arith
fits_greatest Four n h = omega arith
fits_greatest Eight n h = omega arith
