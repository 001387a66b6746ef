-- What is stored of the first bytes of an integer.
use Rattle.std.specs.Prelude.{ℕ, ◌≡◌, ◌<◌, ◌≤◌, ◌+◌, ◌-◌, ◌*◌, ◌^◌, ◌%◌, List, [], ◌∷◌, length, Option, Some, None}
use Rattle.std.specs.Int.{bytes_high_first}
use Rattle.bh_spec.specs.Bytes.{AreBytes}
use Rattle.bh_spec.specs.Integers.{byte_count, tag_of}
use Rattle.bh_spec.specs.Intervals.{big, width_of}
use Rattle.bh_varint.specs.declared.Begun.{Begun}

-- the bytes that it stands for
abbrev pub bytes_stored : Begun → List ℕ
bytes_stored b = bytes_high_first b.count (b.value + tag_of b.width * (64 * 256 ^ (b.count - 1)))

abbrev pub bytes_begun : Option Begun → List ℕ
bytes_begun None = []
bytes_begun (Some b) = bytes_stored b

-- there are some bytes, and the value is one that so many can have
pub record IsStored (b : Begun) : Type 0 where
  pub some : 0 < b.count
  pub fits : b.count ≤ byte_count b.width
  pub small : b.value < 64 * 256 ^ (b.count - 1)

-- nothing came, or a byte at least is missing
abbrev pub IsShort : Option Begun → Type 0
IsShort None = Unit {0}
IsShort (Some b) = IsStored b × (b.count < byte_count b.width)

-- the bytes show this width and have this value
pub record Reads (bytes : List ℕ) (b : Begun) : Type 0 where
  pub first : ℕ
  pub rest : List ℕ
  pub parts : bytes ≡ first ∷ rest
  pub each : AreBytes (first ∷ rest)
  pub long : length bytes ≡ b.count
  pub fits : b.count ≤ byte_count b.width
  pub shows : width_of first ≡ b.width
  pub means : big ((first % 64) ∷ rest) ≡ b.value

-- the least number that begins so
abbrev pub first_open : Begun → ℕ
first_open b = b.value * 256 ^ (byte_count b.width - b.count)

-- the greatest number that begins so
abbrev pub last_open : Begun → ℕ
last_open b = first_open b + 256 ^ (byte_count b.width - b.count) - 1
