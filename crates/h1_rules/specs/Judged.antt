-- The rules of a section.
use Rattle.std.specs.Prelude.{List, [], ◌∷◌}
use Rattle.std.specs.List.{list_any}
use Rattle.bh_spec.specs.Messages.{Field}
use Rattle.bh_spec.specs.declared.NoForm.TheVariants as no
use Rattle.h1_spec.specs.Http1Text.{Case, is_pseudo, has_bad_value}

-- of a section as it was read, and without the lines of its connection
abbrev pub cases_of_fields : List Field → List Field → List Case
cases_of_fields fields cleaned = (no.Pseudo, list_any is_pseudo fields) ∷ (no.ValueByte, has_bad_value cleaned) ∷ []
