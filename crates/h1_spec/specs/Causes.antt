-- Causes: why bytes are no HTTP/1.1 message, in an order.
use Rattle.std.specs.Prelude.{ℕ, ◌≡◌, ◌<◌, ◌≤◌, ◌⊎◌, List, length, take, drop, Option, Some}
use Rattle.bh_spec.specs.Bounds.{IsWithin}
use Rattle.bh_spec.specs.declared.H1Why.{H1Why}
use Rattle.bh_spec.specs.declared.H1Why.TheVariants as why

-- what says which cause there is
abbrev pub Causes : Type 1
Causes = H1Why → Type 0

-- the cause, where the condition holds, and else what the others say
infixr 4 ◌when◌else◌
abbrev pub ◌when◌else◌ : H1Why → Type 0 → Causes → Causes
(w when P else others) cause = (P × (cause ≡ w)) ⊎ ((P → ⊥) × others cause)

-- nothing is wrong
abbrev pub nothing : Causes
nothing cause = ⊥

-- No end by the kind is found: the first bytes up to the limit hold none; or there are fewer bytes, and they hold none.
pub record IsOverlong (Ends : ℕ → Type 0) (limit : Option ℕ) (bytes : List ℕ) : Type 0 where
  pub most : ℕ
  pub limited : limit ≡ Some most
  pub long : most ≤ length bytes
  pub none : (many : ℕ) → many ≤ most → Ends many → ⊥

pub record EndsTooSoon (Ends : ℕ → Type 0) (limit : Option ℕ) (bytes : List ℕ) : Type 0 where
  pub short : (most : ℕ) → limit ≡ Some most → length bytes < most
  pub none : (many : ℕ) → Ends many → ⊥

-- The end of a section by the kind, within the limit, and what its bytes and those behind it say.
pub record IsEndFound (Ends : ℕ → Type 0) (limit : Option ℕ) (bytes : List ℕ) (found : List ℕ → List ℕ → Causes) (cause : H1Why)
    : Type 0 where
  pub many : ℕ
  pub ends : Ends many
  pub within : IsWithin limit many
  pub says : found (take many bytes) (drop many bytes) cause

-- A head or a trailer section is looked for: its end isn't found, or it is.
abbrev pub OfSection : (ℕ → Type 0) → Option ℕ → List ℕ → H1Why → (List ℕ → List ℕ → Causes) → Causes
OfSection Ends limit bytes overlong found cause = (IsOverlong Ends limit bytes × (cause ≡ overlong))
    ⊎ ((EndsTooSoon Ends limit bytes × (cause ≡ why.Ended)) ⊎ IsEndFound Ends limit bytes found cause)
