-- Variable-length integers (RFC 9000, section 16), and which of them may stand at a place.
use Rattle.std.specs.Prelude.{ℕ, ◌≡◌, ◌<◌, ◌≤◌, ◌⊎◌, ◌+◌, ◌*◌, ◌-◌, ◌^◌, List, ◌++◌, IsTrue, nat_lt, if◌then◌else◌, Option, Some, None}
use Rattle.std.specs.Int.{bytes_high_first}
use Rattle.bh_spec.specs.declared.Width.{Width}
use Rattle.bh_spec.specs.declared.Width.TheVariants.{One, Two, Four, Eight}
use Rattle.bh_spec.specs.declared.Span.{Span}
use Rattle.bh_spec.specs.declared.Remainder.{Remainder}
use Rattle.bh_spec.specs.declared.Allowed.{Allowed}

abbrev pub byte_count : Width → ℕ
byte_count One = 1
byte_count Two = 2
byte_count Four = 4
byte_count Eight = 8

-- what the two high bits of the first byte say
abbrev pub tag_of : Width → ℕ
tag_of One = 0
tag_of Two = 1
tag_of Four = 2
tag_of Eight = 3

-- the first number that does not fit the width
abbrev pub limit_of : Width → ℕ
limit_of w = 2 ^ (8 * byte_count w - 2)

-- the integer n in the width w, most significant byte first
abbrev pub vi : ℕ → Width → List ℕ
vi n w = bytes_high_first (byte_count w) (n + tag_of w * limit_of w)

-- the smallest width that can hold n, for n below 2 ^ 62
abbrev pub least_width : ℕ → Width
least_width n = if nat_lt n 64 then One else if nat_lt n 16384 then Two else if nat_lt n 1073741824 then Four else Eight

-- the integer n in the smallest width
abbrev pub int : ℕ → List ℕ
int n = vi n (least_width n)

-- x lies in the span; a span whose low end is above its high end holds nothing
abbrev pub IsIn : Span → ℕ → Type 0
IsIn span x = (span.low ≤ x) × (x ≤ span.high)

-- what a number of so many bytes leaves of a room
abbrev pub Leaves : Option Remainder → ℕ → ℕ → Type 0
Leaves None bytes n = Unit {0}
Leaves (Some rest) bytes n = (bytes + n ≤ rest.room)
    × ((IsTrue rest.zero × (rest.room - bytes - n ≡ 0)) ⊎ IsIn rest.span (rest.room - bytes - n))

-- the number n, in so many bytes, is allowed
abbrev pub IsAllowed : Allowed → ℕ → ℕ → Type 0
IsAllowed set bytes n = (IsTrue set.zero × (n ≡ 0)) ⊎ (IsIn set.span n × Leaves set.rest bytes n)

-- the bytes are the first of the number n in the width w
abbrev pub Begins : List ℕ → ℕ → Width → Type 0
Begins bytes n w = (n < limit_of w) × ((more : List ℕ) × (vi n w ≡ bytes ++ more))

-- some allowed number begins with the bytes
abbrev pub SomeBegins : Allowed → List ℕ → Type 0
SomeBegins set bytes = (n : ℕ) × (w : Width) × Begins bytes n w × IsAllowed set (byte_count w) n
