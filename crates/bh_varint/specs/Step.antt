-- What a step says of the bytes up to and with its own.
use Rattle.std.specs.Prelude.{ℕ, ◌≡◌, ◌<◌, List, [], ◌++◌}
use Rattle.bh_spec.specs.declared.Width.{Width}
use Rattle.bh_spec.specs.declared.Allowed.{Allowed}
use Rattle.bh_spec.specs.Integers.{vi, limit_of, byte_count, IsAllowed, SomeBegins}
use Rattle.bh_varint.specs.declared.Step.{Step}
use Rattle.bh_varint.specs.declared.Step.TheVariants.{More, Value, Dead}

-- the bytes are the number n in the width w, and it is allowed
pub record IsWhole (set : Allowed) (bytes : List ℕ) (n : ℕ) (w : Width) : Type 0 where
  pub fits : n < limit_of w
  pub spelled : vi n w ≡ bytes
  pub allowed : IsAllowed set (byte_count w) n

-- no number, allowed or not, stands whole at the front of the bytes
pub record IsUnfinished (bytes : List ℕ) : Type 0 where
  pub none : (n : ℕ) (w : Width) (more : List ℕ) → n < limit_of w → vi n w ++ more ≡ bytes → ⊥

-- some allowed number begins with the bytes, and they are no whole number
pub record GoesOn (set : Allowed) (bytes : List ℕ) : Type 0 where
  pub begins : SomeBegins set bytes
  pub unfinished : IsUnfinished bytes

-- what the step says of the bytes
abbrev pub Shows : Allowed → List ℕ → Step → Type 0
Shows set bytes More = GoesOn set bytes
Shows set bytes (Value n w) = IsWhole set bytes n w
Shows set bytes Dead = SomeBegins set bytes → ⊥

-- the bytes that are there behind the step
abbrev pub bytes_kept : List ℕ → Step → List ℕ
bytes_kept bytes More = bytes
bytes_kept bytes (Value n w) = []
bytes_kept bytes Dead = []
