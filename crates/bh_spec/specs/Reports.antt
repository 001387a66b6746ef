-- The summary of a message that was read.
use Rattle.std.specs.Prelude.{ℕ, ◌+◌, length, sum_by}
use Rattle.bh_spec.specs.Messages.{Start, request, response, Message, kind_of}
use Rattle.bh_spec.specs.declared.Omitted.{Omitted}
use Rattle.bh_spec.specs.declared.Summary.{Summary}

-- the field lines of interim responses
abbrev pub interim_lines : Start → ℕ
interim_lines (request control) = 0
interim_lines (response interims status) = sum_by (λ interim. length interim.fields) interims

-- the field lines of a message, with those of its interim responses and its trailer section
abbrev pub line_count : Message → ℕ
line_count m = interim_lines m.start + length m.fields + length m.trailers

-- the message m, read from so many bytes, with this omission and padding
abbrev pub summary : Message → Omitted → ℕ → ℕ → Summary
summary m omitted padding bytes = record {
  kind = kind_of m.start;
  bytes = bytes;
  lines = line_count m;
  content = length m.content;
  padding = padding;
  omitted = omitted;
}
