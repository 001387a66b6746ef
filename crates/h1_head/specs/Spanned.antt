-- Fields as spans of a section's bytes.
use Rattle.std.specs.Prelude.{ℕ, ◌≡◌, ◌==◌, ◌<◌, ◌≤◌, List, [], length, take, All}
use Rattle.std.specs.List.{count_by}
use Rattle.bh_spec.specs.Bytes.{lower}
use Rattle.bh_spec.specs.Messages.{Field}
use Rattle.httparse.specs.declared.spans.HeaderSpan.{HeaderSpan}
use Rattle.httparse.specs.Grammar as read
use Rattle.httparse.specs.Spans.{IsHeaderWithin, span_bytes, AreFieldsAt}

-- the field that a span covers, its name in lower case
abbrev pub field_at : List ℕ → HeaderSpan → Field
field_at bytes span = record { name = lower (span_bytes bytes span.name); value = span_bytes bytes span.value }

-- its name is not empty
abbrev pub IsNamed : List ℕ → HeaderSpan → Type 0
IsNamed bytes span = 0 < length (span_bytes bytes span.name)

-- the bytes are a section of `httparse`, and the first spans cover its fields
pub record IsRead (bytes : List ℕ) (spans : List HeaderSpan) (count : ℕ) : Type 0 where
  pub lines : List read.Field
  pub last : read.LineEnd
  pub reads : read.ReadsSection bytes lines last []
  pub covered : AreFieldsAt bytes spans count lines
  pub few : count ≤ length spans
  pub within : All (IsHeaderWithin (length bytes)) (take count spans)

-- so many LFs stand among the bytes, and as many CRs
pub record IsEven (bytes : List ℕ) (lines : ℕ) : Type 0 where
  pub feeds : lines ≡ count_by (λ b. b == 10) bytes
  pub returns : count_by (λ b. b == 13) bytes ≡ lines
