-- Heads and ends of bodies as they are written: names as they are, one SP before a value, and no reason (RFC 9112, sections 3 to 7).
use Rattle.std.specs.Prelude.{ℕ, ◌<◌, ◌≤◌, Bool, true, false, List, [], ◌∷◌, ◌++◌, length, codes, All, Option, Some, None}
use Rattle.bh_spec.specs.Messages.{Field, IsToken}
use Rattle.h1_spec.specs.declared.Framing1.TheVariants.{Chunked}
use Rattle.h1_spec.specs.Grammar.{crlf}
use Rattle.h1_spec.specs.Heads.{StartLine, request_line, status_line, Head, IsRawTarget, IsHeadField}
use Rattle.h1_spec.specs.Http1Text.{field_lines, status_text, coding_lines}

-- a start line with its line end
abbrev pub start_text : StartLine → List ℕ
start_text (request_line method target) = method ++ (32 ∷ (target ++ (codes " HTTP/1.1" ++ crlf)))
start_text (status_line status) = status_text status

-- field lines and the empty line: what ends a head, and a trailer section whole
abbrev pub section_text : List Field → List ℕ
section_text fields = field_lines fields ++ crlf

abbrev pub text_of_head : Head → List ℕ
text_of_head head = start_text head.start ++ section_text head.fields

-- a chunk as it is written: not empty, and of at most 8,192 bytes
abbrev pub IsPiece : List ℕ → Type 0
IsPiece chunk = (0 < length chunk) × (length chunk ≤ 8192)

-- what ends chunked content: the last chunk line, and the trailer section
abbrev pub last_text : List Field → List ℕ
last_text trailers = codes "0" ++ (crlf ++ section_text trailers)

-- the lines that a writer adds: what it is told of the host before all others, and of chunks behind them
abbrev pub host_line : Option (List ℕ) → List Field
host_line None = []
host_line (Some host) = record { name = codes "host"; value = host } ∷ []

abbrev pub coding_line : Bool → List Field
coding_line true = coding_lines Chunked
coding_line false = []

abbrev pub request_written : List ℕ → List ℕ → Option (List ℕ) → List Field → Bool → Head
request_written method target host fields chunked = record {
  start = request_line method target;
  fields = host_line host ++ (fields ++ coding_line chunked);
}

abbrev pub response_written : ℕ → List Field → Bool → Head
response_written status fields chunked = record { start = status_line status; fields = fields ++ coding_line chunked }

-- what can stand in a head
abbrev pub IsWritableStart : StartLine → Type 0
IsWritableStart (request_line method target) = IsToken method × IsRawTarget target
IsWritableStart (status_line status) = (100 ≤ status) × (status ≤ 599)

pub record IsWritable (head : Head) : Type 0 where
  pub start : IsWritableStart head.start
  pub fields : All IsHeadField head.fields
