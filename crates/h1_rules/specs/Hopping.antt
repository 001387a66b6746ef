-- The names that a `connection` line keeps to its connection.
use Rattle.std.specs.Prelude.{ℕ, Bool, not, nat_eq, List, [], ◌∷◌, map, filter, flat_map, drop}
use Rattle.std.specs.List.{slice_split}
use Rattle.bh_spec.specs.Bytes.{lower}
use Rattle.h1_spec.specs.Cleaning.{is_among, trim, is_word, names_in, kept_names}

-- the names, and the bytes of field lines that there is room for the names of
pub record HopsView : Type 0 where
  pub names : List (List ℕ)
  pub room : ℕ

-- names that are stored with a comma before each
abbrev pub names_held : List ℕ → List (List ℕ)
names_held bytes = drop 1 (slice_split (λ byte. nat_eq byte 44) bytes)

-- a name that may be a hop
abbrev pub is_hop : List ℕ → Bool
is_hop name = not (is_among kept_names name)

-- the hops that values of `connection` name; that one value names; and that one piece of it does: one, or none
abbrev pub hops_of_values : List (List ℕ) → List (List ℕ)
hops_of_values values = filter is_hop (flat_map names_in values)

abbrev pub hops_in : List ℕ → List (List ℕ)
hops_in value = filter is_hop (names_in value)

abbrev pub hops_of_piece : List ℕ → List (List ℕ)
hops_of_piece piece = filter is_hop (map lower (filter is_word (map trim (piece ∷ []))))
