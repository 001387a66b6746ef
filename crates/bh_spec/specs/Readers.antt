-- A reader inside a decoder.
use Rattle.std.specs.Prelude.{ℕ, ◌++◌, List, []}
use Rattle.bh_spec.specs.Texts.{Text}
use Rattle.bh_spec.specs.Pieces.{CanBecome, SomeOf}
use Rattle.bh_spec.specs.Items.{Item}
use Rattle.bh_spec.specs.Residuals.{IsResidual}

-- something may stand behind each thing
abbrev pub Follows : {I : Type 0} → (I → Text → Type 0) → (I → List Item → Text → Type 0) → Type 0
Follows {I} A S = (i : I) (t : Text) → A i t → (q : List Item) × (u : Text) × S i q u

-- What the bytes make of the decoder: within the limits R becomes S, without limits F becomes G; and something completes it within the
-- limits.
pub record Moves (R F S G : List Item → Text → Type 0) (bytes : List ℕ) (yields : List Item) : Type 0 where
  pub within : IsResidual R bytes (λ q. yields ++ q) S
  pub anyway : IsResidual F bytes (λ q. yields ++ q) G
  pub goes_on : CanBecome (SomeOf S) []
