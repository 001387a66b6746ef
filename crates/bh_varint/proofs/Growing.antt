-- What is stored stands for the bytes so far.
use Rattle.std.proofs.Common.{◌≡◌, ◌<◌, ◌≤◌, ◌+◌, ◌-◌, ◌*◌, ◌/◌, ◌%◌, ◌^◌, ◌↔◌, arith, ℕ, zero, suc, List, [], ◌∷◌, ◌++◌, length, Option, Some, None, refl, sym, ap, ap₂, subst, ◌∙◌, mod-eq_of_lt, pow-suc, mul_comm, mul-le-mul_right}
use Rattle.std.proofs.lemmas.Nat.{same_from_place, div_below, mod_below, div-add-mod', pow-add}
use Rattle.std.proofs.lemmas.Bool.{lt-ltb, le-ltb}
use Rattle.std.specs.Int.{byte_at, bytes_high_first}
use Rattle.std.proofs.Math.Arith.{digits_lt}
use Rattle.std.proofs.lemmas.List.{length-append}
use Rattle.std.proofs.lemmas.List.Elements.{All-head, All-tail, All-nil, All-cons, All-append}
use Rattle.bh_spec.specs.declared.Width.{Width}
use Rattle.bh_spec.specs.declared.Width.TheVariants.{One, Two, Four, Eight}
use Rattle.bh_spec.specs.declared.Allowed.{Allowed}
use Rattle.bh_spec.specs.Integers.{vi, limit_of, byte_count, tag_of, SomeBegins}
use Rattle.bh_spec.specs.Intervals.{IsAlive, big, width_of, missing, least_begun}
use Rattle.bh_spec.proofs.Prefixes.{some_256, big-below, big-append, length-written, written-bytes, big-written, big-same, tagged, limit_is, strip, alive_by_interval}
use Rattle.bh_varint.specs.declared.Begun.{Begun}
use Rattle.bh_varint.specs.Begun.{bytes_stored, bytes_begun, IsStored, IsShort, Reads, first_open, last_open}
use Rattle.bh_varint.specs.Step.{IsUnfinished, IsWhole}
use Rattle.bh_varint.proofs.Reading.{unfinished_nil, unfinished_part, begins_whole}

-- one byte more
pub reads_more : (bytes : List ℕ) (b : Begun) (x : ℕ) → x < 256 → b.count < byte_count b.width → Reads bytes b
    → Reads (bytes ++ x ∷ []) (record { width = b.width; count = b.count + 1; value = b.value * 256 + x })
reads_more bytes b x h short r = record {
  first = r.first;
  rest = r.rest ++ x ∷ [];
  parts = ap (λ (y : List ℕ). y ++ x ∷ []) r.parts;
  each = All-append (λ y. y < 256) (r.first ∷ r.rest) (x ∷ []) r.each (All-cons (λ y. y < 256) x [] h (All-nil _));
  long = omega (arith, length-append bytes (x ∷ []), r.long);
  fits = omega (arith, short);
  shows = r.shows;
  means = big-append ((r.first % 64) ∷ r.rest) (x ∷ []) ∙ rw r.means (omega arith);
}

-- how many bytes were read
count_is : (bytes : List ℕ) (b : Begun) (r : Reads bytes b) → b.count ≡ suc (length r.rest)
count_is bytes b r = sym r.long ∙ ap length r.parts

-- the stored value gives the bytes back
pub reads_begun : (bytes : List ℕ) (b : Begun) → Reads bytes b → bytes_stored b ≡ bytes
reads_begun bytes b r =
    let k = b.count in
    let w = b.width in
    let x = r.first in
    let rest = r.rest in
    let k-is : k ≡ suc (length rest) = count_is bytes b r in
    let n = b.value + tag_of w * (64 * 256 ^ (k - 1)) in
    let tag : x ≡ tag_of w * 64 + x % 64 = subst (λ (u : Width). x ≡ tag_of u * 64 + x % 64) r.shows (tagged x (All-head (λ y. y < 256) x rest r.each)) in
    let places : length rest + 0 ≡ k - 1 = omega arith in
    let big-is : big (x ∷ rest) ≡ n =
    omega (arith, strip (tag_of w) x rest 0 tag, r.means, ap (λ (i : ℕ). tag_of w * (64 * 256 ^ i)) places) in
    let below : n < 256 ^ k = subst (λ (i : ℕ). n < 256 ^ i) (sym k-is) (subst (λ (i : ℕ). i < 256 ^ suc (length rest)) big-is (big-below (x ∷ rest) r.each)) in
    big-same (bytes_high_first k n) (x ∷ rest) (written-bytes k n) r.each (length-written k n ∙ k-is) (big-written k n ∙ mod-eq_of_lt below ∙ sym big-is)
    ∙ sym r.parts

-- the stored value is one that so many bytes can have
reads_stored : (bytes : List ℕ) (b : Begun) → Reads bytes b → IsStored b
reads_stored bytes b r =
    let rest = r.rest in
    let k-is : b.count ≡ suc (length rest) = count_is bytes b r in
    let c : r.first % 64 < 64 = omega arith in
    let below = digits_lt {q = r.first % 64} {m = 64} {r = big rest} {c = 256 ^ length rest} c (big-below rest (All-tail (λ y. y < 256) r.first rest r.each)) in
    let places : length rest ≡ b.count - 1 = omega arith in
    record {
      some = omega arith;
      fits = r.fits;
      small = omega (arith, below, r.means, ap (λ (i : ℕ). 64 * 256 ^ i) places);
    }

width_from : (w : Width) (b q : ℕ) → b ≡ q + tag_of w * 64 → q < 64 → width_of b ≡ w
width_from One b q e h = rw (lt-ltb b 64 (omega arith)) refl
width_from Two b q e h = rw (le-ltb b 64 (omega arith), lt-ltb b 128 (omega arith)) refl
width_from Four b q e h = rw (le-ltb b 64 (omega arith), le-ltb b 128 (omega arith), lt-ltb b 192 (omega arith)) refl
width_from Eight b q e h = rw (le-ltb b 64 (omega arith), le-ltb b 128 (omega arith), le-ltb b 192 (omega arith)) refl

-- a value below its place, with the tag in front of it
tag_front : (t v p b r : ℕ) → v < 64 * p → 0 < p → r < p → b * p + r ≡ v + t * (64 * p) → (b ≡ v / p + t * 64) × (r ≡ v % p)
tag_front t v p b r h some below e =
    let whole : v / p * p + v % p ≡ v = div-add-mod' v p in
    let small : v % p < p = mod_below v p some in
    same_from_place b r (v / p + t * 64) (v % p) p below small (omega (arith, e, whole))

front_value : (b v p r t : ℕ) → v < 64 * p → 0 < p → b ≡ v / p + t * 64 → r ≡ v % p → (b % 64) * p + r ≡ v
front_value b v p r t h some e f =
    let q : v / p < 64 = div_below v p 64 some h in
    let c : b % 64 ≡ v / p = omega arith in
    rw (c, f) (div-add-mod' v p)

-- what is stored reads so
begun_suc : (w : Width) (k v : ℕ) → suc k ≤ byte_count w → v < 64 * 256 ^ k
    → Reads (bytes_high_first (suc k) (v + tag_of w * (64 * 256 ^ k))) (record { width = w; count = suc k; value = v })
begun_suc w k v fits small =
    let n = v + tag_of w * (64 * 256 ^ k) in
    let p = 256 ^ k in
    let b = byte_at k n in
    let rest = bytes_high_first k n in
    let some = some_256 k in
    let wide : 256 ^ suc k ≡ 256 * p = pow-suc 256 k ∙ mul_comm p 256 in
    let below : n < 256 ^ suc k = omega (arith, wide, tag_below w p) in
    let all : b * p + big rest ≡ n = ap (λ (i : ℕ). b * 256 ^ i + big rest) (sym (length-written k n)) ∙ big-written (suc k) n ∙ mod-eq_of_lt below in
    let least : big rest < p = subst (λ (i : ℕ). big rest < 256 ^ i) (length-written k n) (big-below rest (written-bytes k n)) in
    let front = tag_front (tag_of w) v p b (big rest) small some least all in
    record {
      first = b;
      rest = rest;
      parts = refl;
      each = written-bytes (suc k) n;
      long = length-written (suc k) n;
      fits = fits;
      shows = width_from w b (v / p) front.0 (div_below v p 64 some small);
      means = ap (λ (i : ℕ). (b % 64) * 256 ^ i + big rest) (length-written k n) ∙ front_value b v p (big rest) (tag_of w) small some front.0 front.1;
    }
  where
    tag_below : (u : Width) (q : ℕ) → tag_of u * (64 * q) + 64 * q ≤ 256 * q
    tag_below One q = omega arith
    tag_below Two q = omega arith
    tag_below Four q = omega arith
    tag_below Eight q = omega arith

stored_at : (w : Width) (k v : ℕ) → 0 < k → k ≤ byte_count w → v < 64 * 256 ^ (k - 1)
    → Reads (bytes_high_first k (v + tag_of w * (64 * 256 ^ (k - 1)))) (record { width = w; count = k; value = v })
stored_at w zero v some fits small = absurd (omega arith)
stored_at w (suc k) v some fits small =
    let e : suc k - 1 ≡ k = omega arith in
    subst (λ (i : ℕ). Reads (bytes_high_first (suc k) (v + tag_of w * (64 * 256 ^ i))) (record { width = w; count = suc k; value = v })) (sym e)
    (begun_suc w k v fits (subst (λ (i : ℕ). v < 64 * 256 ^ i) e small))

pub stored_reads : (b : Begun) → IsStored b → Reads (bytes_stored b) b
stored_reads b h = stored_at b.width b.count b.value h.some h.fits h.small

-- all the bytes of the width
reads_whole : (bytes : List ℕ) (b : Begun) → Reads bytes b → b.count ≡ byte_count b.width → (b.value < limit_of b.width) × (vi b.value b.width ≡ bytes)
reads_whole bytes b r e =
    let stored = reads_stored bytes b r in
    let top : 64 * 256 ^ (b.count - 1) ≡ limit_of b.width = ap (λ (k : ℕ). 64 * 256 ^ (k - 1)) e ∙ sym (limit_is b.width) in (
      omega (arith, stored.small, top),
      ap₂ (λ (k x : ℕ). bytes_high_first k (b.value + tag_of b.width * x)) (sym e) (sym top) ∙ reads_begun bytes b r,
    )

-- is the number that began, if an allowed one did
pub reads_value : (set : Allowed) (bytes : List ℕ) (b : Begun) → Reads bytes b → b.count ≡ byte_count b.width → SomeBegins set bytes → IsWhole set bytes b.value b.width
reads_value set bytes b r e s =
    let whole = reads_whole bytes b r e in
    begins_whole set bytes b.value b.width whole.0 whole.1 s

-- the interval of the numbers that begin so, and that one of them is allowed
reads_alive : (set : Allowed) (bytes : List ℕ) (b : Begun) → Reads bytes b
    → SomeBegins set bytes ↔ IsAlive set (byte_count b.width) (first_open b) (last_open b)
reads_alive set bytes b r =
    let x = r.first in
    let rest = r.rest in
    let w = b.width in
    let k-is : b.count ≡ suc (length rest) = count_is bytes b r in
    let j : missing x rest ≡ byte_count w - b.count = omega (arith, ap byte_count r.shows) in
    let low : least_begun x rest ≡ first_open b = ap₂ (λ (v i : ℕ). v * 256 ^ i) r.means j in
    let law = alive_by_interval set x rest r.each (omega (arith, ap byte_count r.shows, r.fits)) in
    subst (λ (y : List ℕ). SomeBegins set y ↔ IsAlive set (byte_count w) (first_open b) (last_open b)) (sym r.parts)
    (subst (λ (u : Width). SomeBegins set (x ∷ rest) ↔ IsAlive set (byte_count u) (first_open b) (last_open b)) r.shows
    (subst (λ (i : ℕ). SomeBegins set (x ∷ rest) ↔ IsAlive set (byte_count (width_of x)) (first_open b) (first_open b + 256 ^ i - 1)) j
    (subst (λ (i : ℕ). SomeBegins set (x ∷ rest) ↔ IsAlive set (byte_count (width_of x)) i (i + 256 ^ missing x rest - 1)) low law)))

-- so a test of the interval is a test of the bytes
pub reads_test : (set : Allowed) (bytes : List ℕ) (b : Begun) (P : Type 0) → Reads bytes b
    → (P ↔ IsAlive set (byte_count b.width) (first_open b) (last_open b)) → (P ↔ SomeBegins set bytes)
reads_test set bytes b P r test =
    let law = reads_alive set bytes b r in
    (λ p. law.1 (test.0 p), λ s. test.1 (law.0 s))

-- the interval lies below 2 ^ 62
pub open_below : (b : Begun) → IsStored b → first_open b + 256 ^ (byte_count b.width - b.count) ≤ 2 ^ 62
open_below b h =
    let j = byte_count b.width - b.count in
    let times : (b.value + 1) * 256 ^ j ≤ (64 * 256 ^ (b.count - 1)) * 256 ^ j = mul-le-mul_right (256 ^ j) (omega (arith, h.small)) in
    let both : 256 ^ (b.count - 1) * 256 ^ j ≡ 256 ^ (byte_count b.width - 1) =
    sym (pow-add 256 (b.count - 1) j) ∙ ap (λ (i : ℕ). 256 ^ i) (omega (arith, h.some, h.fits)) in
    omega (arith, times, both, limit_is b.width, top b.width)
  where
    top : (u : Width) → limit_of u ≤ 2 ^ 62
    top One = omega arith
    top Two = omega arith
    top Four = omega arith
    top Eight = omega arith

-- and a byte at least is missing
pub reads_unfinished : (bytes : List ℕ) (b : Begun) → Reads bytes b → b.count < byte_count b.width → IsUnfinished bytes
reads_unfinished bytes b r short =
    subst IsUnfinished (sym r.parts)
    (unfinished_part r.first r.rest (omega (arith, short, r.long, ap length r.parts, ap byte_count r.shows)))

-- what is stored is no whole number
pub short_unfinished : (o : Option Begun) → IsShort o → IsUnfinished (bytes_begun o)
short_unfinished None h = unfinished_nil
short_unfinished (Some b) h = reads_unfinished (bytes_stored b) b (stored_reads b h.0) h.1

-- a shift by whole bytes
pub shifted : (k : ℕ) → k ≤ 7 → 1 * 2 ^ (8 * k) % 2 ^ 64 ≡ 256 ^ k
shifted zero h = refl
shifted (suc zero) h = refl
shifted (suc (suc zero)) h = refl
shifted (suc (suc (suc zero))) h = refl
shifted (suc (suc (suc (suc zero)))) h = refl
shifted (suc (suc (suc (suc (suc zero))))) h = refl
shifted (suc (suc (suc (suc (suc (suc zero)))))) h = refl
shifted (suc (suc (suc (suc (suc (suc (suc zero))))))) h = refl
shifted (suc (suc (suc (suc (suc (suc (suc (suc k)))))))) h = absurd (omega arith)
