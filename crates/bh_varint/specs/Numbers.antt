-- Numbers that keep a rule, as texts.
use Rattle.std.specs.Prelude.{ℕ, ◌≡◌, ◌<◌, ◌↔◌, ◌++◌}
use Rattle.bh_spec.specs.declared.Allowed.{Allowed}
use Rattle.bh_spec.specs.declared.Part.{Part}
use Rattle.bh_spec.specs.declared.Width.{Width}
use Rattle.bh_spec.specs.Integers.{vi, limit_of, byte_count, IsAllowed}
use Rattle.bh_spec.specs.Texts.{Text, mark, IsNumber}

-- t is the number n, whose bytes have the part, and n keeps the rule
pub record NumberThat (part : Part) (P : ℕ → Type 0) (n : ℕ) (t : Text) : Type 0 where
  pub valid : P n
  pub spelled : IsNumber part n t

-- the allowed numbers are those that keep the rule, in any width
abbrev pub IsSetOf : Allowed → (ℕ → Type 0) → Type 0
IsSetOf set P = (n bytes : ℕ) → IsAllowed set bytes n ↔ P n

-- t is a number, and behind it what the number says, by its bytes
pub record NumberThen (part : Part) (Body : ℕ → ℕ → Text → Type 0) (t : Text) : Type 0 where
  pub number : ℕ
  pub width : Width
  pub behind : Text
  pub fits : number < limit_of width
  pub spelled : t ≡ mark part (vi number width) ++ behind
  pub body : Body number (byte_count width) behind

-- how a text goes on behind an allowed number
abbrev pub Continues : {I : Type 0} → (I → ℕ → ℕ → Text → Type 0) → Allowed → Type 0
Continues {I} Body set = (n : ℕ) (w : Width) → IsAllowed set (byte_count w) n → n < limit_of w
    → (i : I) × (y : Text) × Body i n (byte_count w) y
