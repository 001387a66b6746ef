-- The values of the lines of one name.
use Rattle.std.specs.Prelude.{ℕ, ◌≡◌, ◌<◌, List, [], ◌∷◌, drop, length}
use Rattle.bh_spec.specs.Messages.{Field}
use Rattle.h1_spec.specs.Cleaning.{values_of}
use Rattle.h1_rules.specs.declared.lines.Only.{Only}
use Rattle.h1_rules.specs.declared.lines.Only.TheVariants.{Missing, One, Several}

-- there are none, this alone, or more
abbrev pub IsOnly : List (List ℕ) → Only → Type 0
IsOnly values Missing = values ≡ []
IsOnly values (One value) = values ≡ value.now ∷ []
IsOnly values Several = 1 < length values

-- the values of the lines of a name from a place on
abbrev pub values_from : List ℕ → List Field → ℕ → List (List ℕ)
values_from name fields place = values_of name (drop place fields)
