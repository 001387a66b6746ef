-- The lines of a section, with the word that stands before each name.
use Rattle.std.specs.Prelude.{ℕ, List, [], ◌∷◌, ◌++◌, codes}
use Rattle.std.specs.List.{flat_map}
use Rattle.bh_spec.specs.Messages.{Field}
use Rattle.bh_spec.specs.Listing.{value_text}

abbrev pub field_text : List ℕ → Field → List ℕ
field_text word f = word ++ (f.name ++ (codes " " ++ (value_text f.value ++ (10 ∷ []))))

abbrev pub section_text : List ℕ → List Field → List ℕ
section_text word fields = flat_map (field_text word) fields
