-- There is room for each target and each head within the limits.
use Rattle.std.proofs.Common.{◌≡◌, ◌≤◌, ◌<◌, ◌+◌, ◌*◌, ℕ, Bool, true, false, cond, List, [], ◌∷◌, ◌++◌, length, codes, bytes_eq, ap, arith, length-append}
use Rattle.bh_spec.specs.Messages.{Field, Control, request, response}
use Rattle.bh_spec.specs.Items.{Head, of_request, of_response}
use Rattle.bh_model.specs.Lines.{line_room, lines_room}
use Rattle.h1_spec.specs.Cleaning.{is_empty}
use Rattle.h1_spec.specs.Grammar.{crlf}
use Rattle.h1_spec.specs.Heads.{three_digits}
use Rattle.h1_spec.specs.Http1Text.{field_line, field_lines, target_text, host_lines, start_line}
use Rattle.h1_text.specs.Owed.{head_front, head_end}
use Rattle.h1_text.specs.Writers.{before_all, HasRoom}
use Rattle.h1_text.proofs.Owes.{lines_on}

line_long : (field : Field) → length (field_line field) ≤ 2 * line_room field
line_long field =
    omega (
      arith,
      length-append field.name (codes ": " ++ (field.value ++ crlf)),
      length-append (codes ": ") (field.value ++ crlf),
      length-append field.value crlf,
    )

-- lines take at most twice the bytes that they took
text_long : (fields : List Field) → length (field_lines fields) ≤ 2 * lines_room fields
text_long [] = omega arith
text_long (field ∷ fields) = omega (arith, length-append (field_line field) (field_lines fields), line_long field, text_long fields)

-- the control data of a request, each part of which has at most so many bytes
module _ (part : ℕ) (c : Control) (method : length c.method ≤ part) (scheme : length c.scheme ≤ part) (authority : length c.authority ≤ part) (path : length c.path ≤ part) where
  path_long : (star : Bool) → length (cond star [] c.path) ≤ part
  path_long true = omega arith
  path_long false = path

  whole_long : length (c.scheme ++ (codes "://" ++ (c.authority ++ cond (bytes_eq c.path (codes "*")) [] c.path))) ≤ 3 * part + 3
  whole_long =
      let rest = cond (bytes_eq c.path (codes "*")) [] c.path in
      omega (
        arith,
        length-append c.scheme (codes "://" ++ (c.authority ++ rest)),
        length-append (codes "://") (c.authority ++ rest),
        length-append c.authority rest,
        path_long (bytes_eq c.path (codes "*")),
        scheme,
        authority,
      )

  target_long : length (target_text c) ≤ 3 * part + 3
  target_long = by_authority c.authority whole_long
    where
      by_authority : (a : List ℕ) → length (c.scheme ++ (codes "://" ++ (c.authority ++ cond (bytes_eq c.path (codes "*")) [] c.path))) ≤ 3 * part + 3
          → length (cond (is_empty a) c.path (c.scheme ++ (codes "://" ++ (c.authority ++ cond (bytes_eq c.path (codes "*")) [] c.path)))) ≤ 3 * part + 3
      by_authority [] h = omega (arith, path)
      by_authority (b ∷ a) h = h

  host_long : length (field_lines (host_lines c)) ≤ part + 8
  host_long = by_authority c.authority authority
    where
      by_authority : (a : List ℕ) → length a ≤ part → length (field_lines (cond (is_empty a) [] (record { name = codes "host"; value = a } ∷ []))) ≤ part + 8
      by_authority [] h = omega arith
      by_authority (b ∷ a) h =
          omega (
            arith,
            length-append (field_line (record { name = codes "host"; value = b ∷ a })) [],
            length-append (codes "host") (codes ": " ++ ((b ∷ a) ++ crlf)),
            length-append (codes ": ") ((b ∷ a) ++ crlf),
            length-append (b ∷ a) crlf,
            h,
          )

  start_long : length (start_line (request c)) ≤ 4 * part + 15
  start_long =
      omega (
        arith,
        length-append c.method (32 ∷ (target_text c ++ (codes " HTTP/1.1" ++ crlf))),
        length-append (target_text c) (codes " HTTP/1.1" ++ crlf),
        length-append (codes " HTTP/1.1") crlf,
        target_long,
        method,
      )

  pub request_room : (to_head : Bool) (section : ℕ) (fields : List Field) → lines_room fields ≤ section → HasRoom (before_all to_head (3 * part + 3) (5 * part + 2 * section + 54)) (of_request c) fields
  request_room to_head section fields few = (
    target_long,
    omega (
      arith,
      length-append (start_line (request c)) (field_lines (host_lines c ++ fields)),
      ap length (lines_on (host_lines c) fields),
      length-append (field_lines (host_lines c)) (field_lines fields),
      start_long,
      host_long,
      text_long fields,
      few,
    ),
  )

-- that of a response is shorter
pub response_room : (part : ℕ) (to_head : Bool) (section status : ℕ) (fields : List Field) → lines_room fields ≤ section → HasRoom (before_all to_head (3 * part + 3) (5 * part + 2 * section + 54)) (of_response status) fields
response_room part to_head section status fields few =
    omega (
      arith,
      length-append (start_line (response [] status)) (field_lines fields),
      length-append (codes "HTTP/1.1 ") (three_digits status ++ (32 ∷ crlf)),
      length-append (three_digits status) (32 ∷ crlf),
      text_long fields,
      few,
    )
