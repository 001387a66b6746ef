-- The bytes that begin a number leave an interval.
use Rattle.std.proofs.Common.{◌≡◌, ◌<◌, ◌≤◌, ◌+◌, ◌-◌, ◌*◌, ◌/◌, ◌%◌, ◌^◌, arith, ℕ, zero, suc, min, max, List, [], ◌∷◌, ◌++◌, length, Option, Some, None, refl, sym, ap, ap₂, subst, ◌∙◌, inl, inr, pow-suc, mul_comm, mod-eq_of_lt, mul-le-mul_right}
use Rattle.std.specs.Int.{byte_at, bytes_high_first}
use Rattle.std.proofs.Math.Nat.{pow-le-pow_right}
use Rattle.std.proofs.Math.Arith.{mod-mul, digits_lt}
use Rattle.std.proofs.lemmas.Nat.{same_from_place, pow-add}
use Rattle.std.proofs.lemmas.Bool.{cases_lt, lt-ltb, le-ltb}
use Rattle.std.proofs.lemmas.List.{length-append}
use Rattle.std.proofs.lemmas.List.Elements.{All-head, All-tail, All-nil, All-cons, All-append}
use Rattle.bh_spec.specs.Bytes.{AreBytes}
use Rattle.bh_spec.specs.declared.Allowed.{Allowed}
use Rattle.bh_spec.specs.declared.Remainder.{Remainder}
use Rattle.bh_spec.specs.declared.Width.{Width}
use Rattle.bh_spec.specs.declared.Width.TheVariants.{One, Two, Four, Eight}
use Rattle.bh_spec.specs.Integers.{vi, limit_of, tag_of, byte_count, Leaves, IsAllowed, Begins, SomeBegins}
use Rattle.bh_spec.specs.Intervals.{big, width_of, missing, least_begun, Left, IsAlive}
use Rattle.bh_spec.specs.Alive.{AliveByInterval}
use Rattle.bh_spec.proofs.Widths.{length-vi}

pub some_256 : (k : ℕ) → 0 < 256 ^ k
some_256 k = pow-le-pow_right {n = 256} (omega arith) {i = 0} {j = k} (omega arith)

wider : (k : ℕ) → 256 ^ suc k ≡ 256 * 256 ^ k
wider k = pow-suc 256 k ∙ mul_comm (256 ^ k) 256

pub big-below : (xs : List ℕ) → AreBytes xs → big xs < 256 ^ length xs
big-below [] h = omega arith
big-below (x ∷ xs) h =
    let head : x < 256 = All-head (λ y. y < 256) x xs h in
    rw wider (digits_lt {q = x} {m = 256} {r = big xs} {c = 256 ^ length xs} head (big-below xs (All-tail (λ y. y < 256) x xs h)))

pub big-append : (xs ys : List ℕ) → big (xs ++ ys) ≡ big xs * 256 ^ length ys + big ys
big-append [] ys = omega arith
big-append (x ∷ xs) ys =
    let n : 256 ^ length (xs ++ ys) ≡ 256 ^ length xs * 256 ^ length ys = ap (λ (k : ℕ). 256 ^ k) (length-append xs ys) ∙ pow-add 256 (length xs) (length ys) in
    rw (n, big-append xs ys) (omega arith)

pub length-written : (k n : ℕ) → length (bytes_high_first k n) ≡ k
length-written zero n = refl
length-written (suc k) n = ap suc (length-written k n)

byte-below : (k n : ℕ) → byte_at k n < 256
byte-below zero n = omega arith
byte-below (suc k) n = omega arith

pub written-bytes : (k n : ℕ) → AreBytes (bytes_high_first k n)
written-bytes zero n = All-nil (λ y. y < 256)
written-bytes (suc k) n = All-cons (λ y. y < 256) (byte_at k n) (bytes_high_first k n) (byte-below k n) (written-bytes k n)

byte_on : (k n : ℕ) → byte_at k n * 256 ^ k + n % 256 ^ k ≡ n % 256 ^ suc k
byte_on zero n = omega arith
byte_on (suc k) n = rw (wider (suc k), mod-mul n {m = 256} {c = 256 ^ suc k} (omega arith) (some_256 (suc k))) refl

pub big-written : (k n : ℕ) → big (bytes_high_first k n) ≡ n % 256 ^ k
big-written zero n = omega arith
big-written (suc k) n = rw (length-written k n, big-written k n) (byte_on k n)

pub big-same : (xs ys : List ℕ) → AreBytes xs → AreBytes ys → length xs ≡ length ys → big xs ≡ big ys → xs ≡ ys
big-same [] [] g h e f = refl
big-same [] (y ∷ ys) g h e f = absurd cc
big-same (x ∷ xs) [] g h e f = absurd cc
big-same (x ∷ xs) (y ∷ ys) g h e f =
    let n : length xs ≡ length ys = cc in
    let same : x * 256 ^ length ys + big xs ≡ y * 256 ^ length ys + big ys = ap (λ (k : ℕ). x * 256 ^ k + big xs) (sym n) ∙ f in
    let below : big xs < 256 ^ length ys = subst (λ (k : ℕ). big xs < 256 ^ k) n (big-below xs (All-tail (λ y. y < 256) x xs g)) in
    let both = same_from_place x (big xs) y (big ys) (256 ^ length ys) below (big-below ys (All-tail (λ y. y < 256) y ys h)) same in
    ap₂ (λ (a : ℕ) (b : List ℕ). a ∷ b) both.0 (big-same xs ys (All-tail (λ y. y < 256) x xs g) (All-tail (λ y. y < 256) y ys h) n both.1)

-- two lists that begin lists that are the same, and are as long
pub lists_apart : (a b x y : List ℕ) → length a ≡ length b → a ++ x ≡ b ++ y → (a ≡ b) × (x ≡ y)
lists_apart [] [] x y h e = (refl, e)
lists_apart [] (c ∷ b) x y h e = absurd cc
lists_apart (c ∷ a) [] x y h e = absurd cc
lists_apart (c ∷ a) (d ∷ b) x y h e =
    let n : length a ≡ length b = cc in
    let rest : a ++ x ≡ b ++ y = cc in
    let head : c ≡ d = cc in
    let both = lists_apart a b x y n rest in
    (ap₂ (λ (z : ℕ) (zs : List ℕ). z ∷ zs) head both.0, both.1)

-- ---- the front of a number of k bytes

front_from : (k n : ℕ) (xs more : List ℕ) → AreBytes xs → AreBytes more → n < 256 ^ k → bytes_high_first k n ≡ xs ++ more
    → (big xs * 256 ^ length more ≤ n) × (n < big xs * 256 ^ length more + 256 ^ length more)
front_from k n xs more g h below e =
    let n-is : n ≡ big xs * 256 ^ length more + big more = sym (big-written k n ∙ mod-eq_of_lt below) ∙ ap big e ∙ big-append xs more in
    let rest = big-below more h in
    (omega arith, omega arith)

front_to : (j k n : ℕ) (xs : List ℕ) → AreBytes xs → length xs + j ≡ k → big xs * 256 ^ j ≤ n → n < big xs * 256 ^ j + 256 ^ j
    → bytes_high_first k n ≡ xs ++ bytes_high_first j (n - big xs * 256 ^ j)
front_to j k n xs g e low high =
    let m = n - big xs * 256 ^ j in
    let rest : big (bytes_high_first j m) ≡ m = big-written j m ∙ mod-eq_of_lt (omega arith) in
    let all : big (xs ++ bytes_high_first j m) ≡ n = big-append xs (bytes_high_first j m) ∙ rw (length-written j m, rest) (omega arith) in
    let long : length (xs ++ bytes_high_first j m) ≡ k = omega (arith, length-append xs (bytes_high_first j m), length-written j m) in
    let bytes : AreBytes (xs ++ bytes_high_first j m) = All-append (λ y. y < 256) xs (bytes_high_first j m) g (written-bytes j m) in
    let below : n < 256 ^ k = subst (λ (i : ℕ). n < 256 ^ i) long (subst (λ (i : ℕ). i < 256 ^ length (xs ++ bytes_high_first j m)) all (big-below (xs ++ bytes_high_first j m) bytes)) in
    big-same (bytes_high_first k n) (xs ++ bytes_high_first j m) (written-bytes k n) bytes (length-written k n ∙ sym long)
    (big-written k n ∙ mod-eq_of_lt below ∙ sym all)

-- ---- the two high bits

pub head_width : (w : Width) (n b : ℕ) (xs : List ℕ) → n < limit_of w → vi n w ≡ b ∷ xs → width_of b ≡ w
head_width One n b xs h e =
    let head : (n + 0 * 64) % 256 ≡ b = cc in
    rw (lt-ltb b 64 (omega arith)) refl
head_width Two n b xs h e =
    let head : (n + 1 * 16384) / 256 % 256 ≡ b = cc in
    rw (le-ltb b 64 (omega arith), lt-ltb b 128 (omega arith)) refl
head_width Four n b xs h e =
    let head : (n + 2 * 1073741824) / 256 ^ 3 % 256 ≡ b = cc in
    rw (le-ltb b 64 (omega arith), le-ltb b 128 (omega arith), lt-ltb b 192 (omega arith)) refl
head_width Eight n b xs h e =
    let head : (n + 3 * 2 ^ 62) / 256 ^ 7 % 256 ≡ b = cc in
    rw (le-ltb b 64 (omega arith), le-ltb b 128 (omega arith), le-ltb b 192 (omega arith)) refl

-- a number has a first byte
pub first_byte : (w : Width) (n : ℕ) → (b : ℕ) × (xs : List ℕ) × (vi n w ≡ b ∷ xs)
first_byte One n = (_, _, refl)
first_byte Two n = (_, _, refl)
first_byte Four n = (_, _, refl)
first_byte Eight n = (_, _, refl)

-- which shows its width
pub front_width : (w : Width) (n b : ℕ) (xs more : List ℕ) → n < limit_of w → vi n w ++ more ≡ b ∷ xs → width_of b ≡ w
front_width w n b xs more h e =
    let f = first_byte w n in
    let whole : f.0 ∷ (f.1 ++ more) ≡ b ∷ xs = ap (λ (x : List ℕ). x ++ more) (sym f.2) ∙ e in
    let same : f.0 ≡ b = cc in
    subst (λ (x : ℕ). width_of x ≡ w) same (head_width w n f.0 f.1 h f.2)

pub tagged : (b : ℕ) → b < 256 → b ≡ tag_of (width_of b) * 64 + b % 64
tagged b h =
    elim (cases_lt b 64) [
      | inl p ↦ rw (lt-ltb b 64 p) (omega arith)
      | inr p ↦ elim (cases_lt b 128) [
        | inl q ↦ rw (le-ltb b 64 p, lt-ltb b 128 q) (omega arith)
        | inr q ↦ elim (cases_lt b 192) [
          | inl r ↦ rw (le-ltb b 64 p, le-ltb b 128 q, lt-ltb b 192 r) (omega arith)
          | inr r ↦ rw (le-ltb b 64 p, le-ltb b 128 q, le-ltb b 192 r) (omega arith)
        ]
      ]
    ]

pub limit_is : (w : Width) → limit_of w ≡ 64 * 256 ^ (byte_count w - 1)
limit_is One = refl
limit_is Two = refl
limit_is Four = refl
limit_is Eight = refl

whole_below : (w : Width) (n : ℕ) → n < limit_of w → n + tag_of w * limit_of w < 256 ^ byte_count w
whole_below One n h = omega arith
whole_below Two n h = omega arith
whole_below Four n h = omega arith
whole_below Eight n h = omega arith

regroup : (t c p r q : ℕ) → ((t * 64 + c) * p + r) * q ≡ (c * p + r) * q + t * (64 * (p * q))
regroup t c p r q = omega arith

-- without the two high bits
pub strip : (t b : ℕ) (rest : List ℕ) (j : ℕ) → b ≡ t * 64 + b % 64 → big (b ∷ rest) * 256 ^ j ≡ big ((b % 64) ∷ rest) * 256 ^ j + t * (64 * 256 ^ (length rest + j))
strip t b rest j e =
    ap (λ (x : ℕ). (x * 256 ^ length rest + big rest) * 256 ^ j) e
    ∙ regroup t (b % 64) (256 ^ length rest) (big rest) (256 ^ j)
    ∙ ap (λ (x : ℕ). big ((b % 64) ∷ rest) * 256 ^ j + t * (64 * x)) (sym (pow-add 256 (length rest) j))

-- the same at the width that the byte shows
strip_at : (b : ℕ) (rest : List ℕ) (j : ℕ) → b < 256 → length rest + 1 + j ≡ byte_count (width_of b)
    → big (b ∷ rest) * 256 ^ j ≡ big ((b % 64) ∷ rest) * 256 ^ j + tag_of (width_of b) * limit_of (width_of b)
strip_at b rest j h e =
    let w = width_of b in
    let k : length rest + j ≡ byte_count w - 1 = omega arith in
    strip (tag_of w) b rest j (tagged b h)
    ∙ ap (λ (x : ℕ). big ((b % 64) ∷ rest) * 256 ^ j + tag_of w * x) (ap (λ (i : ℕ). 64 * 256 ^ i) k ∙ sym (limit_is w))

tail_bytes : (xs ys : List ℕ) → AreBytes (xs ++ ys) → AreBytes ys
tail_bytes [] ys h = h
tail_bytes (x ∷ xs) ys h = tail_bytes xs ys (All-tail (λ y. y < 256) x (xs ++ ys) h)

interval_from : (w : Width) (n b : ℕ) (rest more : List ℕ) → AreBytes (b ∷ rest) → n < limit_of w → vi n w ≡ (b ∷ rest) ++ more → width_of b ≡ w
    → (length rest + 1 + length more ≡ byte_count w) × (big ((b % 64) ∷ rest) * 256 ^ length more ≤ n)
    × (n < big ((b % 64) ∷ rest) * 256 ^ length more + 256 ^ length more)
interval_from w n b rest more g h e same =
    let long : length rest + 1 + length more ≡ byte_count w = omega (arith, length-vi n w, ap length e, length-append (b ∷ rest) more) in
    let bytes : AreBytes more = tail_bytes (b ∷ rest) more (subst AreBytes e (written-bytes (byte_count w) (n + tag_of w * limit_of w))) in
    let front = front_from (byte_count w) (n + tag_of w * limit_of w) (b ∷ rest) more g bytes (whole_below w n h) e in
    let stripped : big (b ∷ rest) * 256 ^ length more ≡ big ((b % 64) ∷ rest) * 256 ^ length more + tag_of w * limit_of w =
    subst (λ (v : Width). big (b ∷ rest) * 256 ^ length more ≡ big ((b % 64) ∷ rest) * 256 ^ length more + tag_of v * limit_of v) same
    (strip_at b rest (length more) (All-head (λ y. y < 256) b rest g) (long ∙ ap byte_count (sym same))) in
    (long, omega (arith, front.0, stripped), omega (arith, front.1, stripped))

least_below : (b : ℕ) (rest : List ℕ) (j : ℕ) → AreBytes rest → big ((b % 64) ∷ rest) * 256 ^ j + 256 ^ j ≤ 64 * 256 ^ (length rest + j)
least_below b rest j g =
    let p = 256 ^ length rest in
    let q = 256 ^ j in
    let c : b % 64 < 64 = omega arith in
    let below : (b % 64) * p + big rest < 64 * p = digits_lt {q = b % 64} {m = 64} {r = big rest} {c = p} c (big-below rest g) in
    let times : ((b % 64) * p + big rest + 1) * q ≤ (64 * p) * q = mul-le-mul_right q (omega arith) in
    rw (pow-add 256 (length rest) j) (omega (arith, times))

interval_to : (n b : ℕ) (rest : List ℕ) (j : ℕ) → AreBytes (b ∷ rest) → length rest + 1 + j ≡ byte_count (width_of b)
    → big ((b % 64) ∷ rest) * 256 ^ j ≤ n → n < big ((b % 64) ∷ rest) * 256 ^ j + 256 ^ j → Begins (b ∷ rest) n (width_of b)
interval_to n b rest j g e low high =
    let w = width_of b in
    let stripped = strip_at b rest j (All-head (λ y. y < 256) b rest g) e in
    let k : length rest + j ≡ byte_count w - 1 = omega arith in
    let top : 64 * 256 ^ (length rest + j) ≡ limit_of w = ap (λ (i : ℕ). 64 * 256 ^ i) k ∙ sym (limit_is w) in
    let fits : n < limit_of w = omega (arith, top, least_below b rest j (All-tail (λ y. y < 256) b rest g)) in
    (fits, (_, front_to j (byte_count w) (n + tag_of w * limit_of w) (b ∷ rest) g (omega arith) (omega (arith, stripped)) (omega (arith, stripped))))

-- ---- which numbers of an interval are allowed

left_from : (o : Option Remainder) (bytes low high n : ℕ) → low ≤ n → n ≤ high → Leaves o bytes n → Left o bytes low high
left_from None bytes low high n g h l = omega arith
left_from (Some r) bytes low high n g h l =
    elim l.1 [
      | inl z ↦ (omega (arith, l.0), inl (z.0, omega (arith, l.0, z.1), omega (arith, l.0, z.1)))
      | inr s ↦ (omega (arith, l.0), inr (omega (arith, l.0, s.0, s.1), omega (arith, l.0, s.0, s.1)))
    ]

left_to : (o : Option Remainder) (bytes low high : ℕ) → Left o bytes low high → (n : ℕ) × (low ≤ n) × (n ≤ high) × Leaves o bytes n
left_to None bytes low high l = (low, omega arith, l, tt)
left_to (Some r) bytes low high l =
    elim l.1 [
      | inl z ↦ (r.room - bytes, z.1, z.2, (omega (arith, l.0), inl (z.0, omega arith)))
      | inr s ↦ (
        max low (r.room - bytes - r.span.high),
        omega arith,
        omega (arith, s.1),
        (omega (arith, l.0, s.0, s.1), inr (omega (arith, l.0, s.0, s.1), omega (arith, l.0, s.0, s.1))),
      )
    ]

alive_from : (set : Allowed) (bytes low high n : ℕ) → low ≤ n → n ≤ high → IsAllowed set bytes n → IsAlive set bytes low high
alive_from set bytes low high n g h (inl z) = inl (z.0, omega (arith, z.1))
alive_from set bytes low high n g h (inr s) = inr (left_from set.rest bytes (max low set.span.low) (min high set.span.high) n (omega (arith, s.0.0)) (omega (arith, s.0.1)) s.1)

alive_to : (set : Allowed) (bytes low high : ℕ) → low ≤ high → IsAlive set bytes low high → (n : ℕ) × (low ≤ n) × (n ≤ high) × IsAllowed set bytes n
alive_to set bytes low high h (inl z) = (0, omega (arith, z.1), omega arith, inl (z.0, refl))
alive_to set bytes low high h (inr l) =
    let n = left_to set.rest bytes (max low set.span.low) (min high set.span.high) l in
    (n.0, omega (arith, n.1), omega (arith, n.2), inr ((omega (arith, n.1), omega (arith, n.2)), n.3))

alive_if : (set : Allowed) (b : ℕ) (rest : List ℕ) → AreBytes (b ∷ rest) → SomeBegins set (b ∷ rest)
    → IsAlive set (byte_count (width_of b)) (least_begun b rest) (least_begun b rest + 256 ^ missing b rest - 1)
alive_if set b rest g h =
    let n = h.0 in
    let w = h.1 in
    let same : width_of b ≡ w = head_width w n b (rest ++ h.2.1.0) h.2.0 h.2.1.1 in
    let i = interval_from w n b rest h.2.1.0 g h.2.0 h.2.1.1 same in
    let j : missing b rest ≡ length h.2.1.0 = omega (arith, i.0, ap byte_count same) in
    let low : least_begun b rest ≡ big ((b % 64) ∷ rest) * 256 ^ length h.2.1.0 = ap (λ (k : ℕ). big ((b % 64) ∷ rest) * 256 ^ k) j in
    let wide : 256 ^ missing b rest ≡ 256 ^ length h.2.1.0 = ap (λ (k : ℕ). 256 ^ k) j in
    alive_from set (byte_count (width_of b)) (least_begun b rest) (least_begun b rest + 256 ^ missing b rest - 1) n
    (omega (arith, low, i.1)) (omega (arith, low, wide, i.2)) (subst (λ (v : Width). IsAllowed set (byte_count v) n) (sym same) h.3)

begins_if : (set : Allowed) (b : ℕ) (rest : List ℕ) → AreBytes (b ∷ rest) → length rest < byte_count (width_of b)
    → IsAlive set (byte_count (width_of b)) (least_begun b rest) (least_begun b rest + 256 ^ missing b rest - 1) → SomeBegins set (b ∷ rest)
begins_if set b rest g h l =
    let some = some_256 (missing b rest) in
    let n = alive_to set (byte_count (width_of b)) (least_begun b rest) (least_begun b rest + 256 ^ missing b rest - 1) (omega arith) l in
    (n.0, width_of b, interval_to n.0 b rest (missing b rest) g (omega arith) n.1 (omega (arith, n.2)), n.3)

pub alive_by_interval : AliveByInterval
alive_by_interval set b rest g h = (alive_if set b rest g, begins_if set b rest g h)
