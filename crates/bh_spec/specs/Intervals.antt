-- The numbers that begin with some bytes are an interval: these say which, and whether one of them is allowed.
use Rattle.std.specs.Prelude.{ℕ, ◌≡◌, ◌≤◌, ◌⊎◌, ◌+◌, ◌-◌, ◌*◌, ◌^◌, ◌%◌, min, max, IsTrue, nat_lt, if◌then◌else◌, List, [], ◌∷◌, length, Option, Some, None}
use Rattle.bh_spec.specs.declared.Width.{Width}
use Rattle.bh_spec.specs.declared.Width.TheVariants.{One, Two, Four, Eight}
use Rattle.bh_spec.specs.declared.Remainder.{Remainder}
use Rattle.bh_spec.specs.declared.Allowed.{Allowed}
use Rattle.bh_spec.specs.Integers.{byte_count}

-- the number that the bytes are, the most significant first
abbrev pub big : List ℕ → ℕ
big [] = 0
big (byte ∷ rest) = byte * 256 ^ length rest + big rest

-- the width that a first byte shows
abbrev pub width_of : ℕ → Width
width_of byte = if nat_lt byte 64 then One else if nat_lt byte 128 then Two else if nat_lt byte 192 then Four else Eight

-- how many bytes are missing
abbrev pub missing : ℕ → List ℕ → ℕ
missing byte rest = byte_count (width_of byte) - (length rest + 1)

-- the least number that begins so
abbrev pub least_begun : ℕ → List ℕ → ℕ
least_begun byte rest = big ((byte % 64) ∷ rest) * 256 ^ missing byte rest

-- some number from low to high is allowed in so many bytes
abbrev pub Left : Option Remainder → ℕ → ℕ → ℕ → Type 0
Left None bytes low high = low ≤ high
Left (Some rest) bytes low high = (bytes ≤ rest.room)
    × ((IsTrue rest.zero × (low ≤ rest.room - bytes) × (rest.room - bytes ≤ high))
    ⊎ ((rest.span.low ≤ rest.room - bytes) × (max low (rest.room - bytes - rest.span.high) ≤ min high (rest.room - bytes - rest.span.low))))

abbrev pub IsAlive : Allowed → ℕ → ℕ → ℕ → Type 0
IsAlive set bytes low high = (IsTrue set.zero × (low ≡ 0)) ⊎ Left set.rest bytes (max low set.span.low) (min high set.span.high)
