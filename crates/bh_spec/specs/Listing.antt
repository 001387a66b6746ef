-- The listing of a message: lines of text that say all of it (docs/FORMAT.md, "The listing").
use Rattle.std.specs.Prelude.{ℕ, ◌/◌, ◌%◌, ◌==◌, ◌&&◌, Bool, not, List, [], ◌∷◌, ◌++◌, map, flat_map, codes, slice_index, nat_le, if◌then◌else◌}
use Rattle.std.specs.List.{list_all}
use Rattle.std.specs.Fmt.{decimal}
use Rattle.bh_spec.specs.Messages.{Field, Interim, Start, request, response, Message}
use Rattle.bh_spec.specs.Canonical.{cut}

-- a byte in two lower-case hexadecimal digits
abbrev pub digit : ℕ → ℕ
digit n = slice_index (codes "0123456789abcdef") n

abbrev pub hex : List ℕ → List ℕ
hex = flat_map (λ byte. digit (byte / 16) ∷ digit (byte % 16) ∷ [])

-- a byte that stands as itself between quotes: 0x20 to 0x7e, but no `"` and no backslash
abbrev pub is_quotable : ℕ → Bool
is_quotable byte = nat_le 32 byte && (nat_le byte 126 && (not (byte == 34) && not (byte == 92)))

abbrev pub value_text : List ℕ → List ℕ
value_text value = if list_all is_quotable value then codes "\"" ++ (value ++ codes "\"") else codes "hex:" ++ hex value

-- one line of a listing
pub data Line : Type 0 where
  a_request : Line
  a_response : Line
  method : List ℕ → Line
  scheme : List ℕ → Line
  authority : List ℕ → Line
  path : List ℕ → Line
  interim : ℕ → Line
  status : ℕ → Line
  field : Field → Line
  content : List ℕ → Line
  trailer : Field → Line
  the_end : Line

-- its text, without the line feed
abbrev pub text_of : Line → List ℕ
text_of a_request = codes "request"
text_of a_response = codes "response"
text_of (method m) = codes "method " ++ m
text_of (scheme s) = codes "scheme " ++ s
text_of (authority a) = codes "authority \"" ++ (a ++ codes "\"")
text_of (path p) = codes "path \"" ++ (p ++ codes "\"")
text_of (interim n) = codes "interim " ++ decimal n
text_of (status n) = codes "status " ++ decimal n
text_of (field f) = codes "field " ++ (f.name ++ (codes " " ++ value_text f.value))
text_of (content bytes) = codes "content " ++ hex bytes
text_of (trailer f) = codes "trailer " ++ (f.name ++ (codes " " ++ value_text f.value))
text_of the_end = codes "end"

abbrev pub interim_lines : Interim → List Line
interim_lines i = interim i.status ∷ map field i.fields

abbrev pub start_lines : Start → List Line
start_lines (request c) = a_request ∷ method c.method ∷ scheme c.scheme ∷ authority c.authority ∷ path c.path ∷ []
start_lines (response interims n) = a_response ∷ (flat_map interim_lines interims ++ (status n ∷ []))

-- content stands in pieces of 32 bytes and a shorter last one
abbrev pub content_lines : List ℕ → List Line
content_lines bytes = map content (cut 32 bytes)

-- the lines of a message
abbrev pub lines_of : Message → List Line
lines_of m = start_lines m.start
    ++ (map field m.fields ++ (content_lines m.content ++ (map trailer m.trailers ++ (the_end ∷ []))))

-- each line ends with a line feed
abbrev pub joined : List Line → List ℕ
joined lines = flat_map (λ line. text_of line ++ (10 ∷ [])) lines

-- the listing
abbrev pub show : Message → List ℕ
show m = joined (lines_of m)
