-- The lines that are put, one behind the other.
use Rattle.std.proofs.Common.{◌≡◌, ◌+◌, ℕ, List, ◌++◌, take, Some, slice_get, subst}
use Rattle.bh_spec.specs.Messages.{Field}
use Rattle.bh_spec.specs.Canonical.{string, line, lines}
use Rattle.bh_base.proofs.Putting.{text_more}

-- one line more, at a place that is this one
pub line_at : (fields : List Field) (i j : ℕ) (field : Field) → j ≡ i → slice_get fields j ≡ Some field
    → lines (take i fields) ++ (string field.name ++ string field.value) ≡ lines (take (i + 1) fields)
line_at fields i j field same got = text_more line fields i field (subst (λ (k : ℕ). slice_get fields k ≡ Some field) same got)
