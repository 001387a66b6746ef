-- A head whose end isn't known yet, as it is written.
use Rattle.std.specs.Prelude.{ℕ, List, ◌++◌, Option}
use Rattle.bh_spec.specs.Messages.{Field}
use Rattle.h1_spec.specs.Heads.{request_line}
use Rattle.h1_spec.specs.Http1Text.{field_lines}
use Rattle.h1_spec.specs.Written.{start_text, host_line}

-- the head of a request, up to a line that may say that chunks follow
abbrev pub request_front : List ℕ → List ℕ → Option (List ℕ) → List Field → List ℕ
request_front method target host fields = start_text (request_line method target) ++ field_lines (host_line host ++ fields)
