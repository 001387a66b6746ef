-- The HTTP/1.1 text of a message, or why it has none (RFC 9112).
use Rattle.std.specs.Prelude.{ℕ, zero, suc, Bool, true, false, cond, not, ◌&&◌, ◌||◌, ◌+◌, ◌/◌, ◌%◌, nat_eq, nat_lt, nat_le, List, [], ◌∷◌, ◌++◌, length, flat_map, All, codes, bytes_eq, find, Option, option_map}
use Rattle.std.specs.List.{list_any, list_all}
use Rattle.std.specs.Char.{digit_char}
use Rattle.std.specs.Str.Parse.{digits_value}
use Rattle.bh_spec.specs.Bytes.{is_authority, is_text_value, is_digit, lower}
use Rattle.bh_spec.specs.Messages.{Field, Control, Interim, Start, request, response, Message}
use Rattle.bh_spec.specs.Bounds.{Bounds, IsWithin}
use Rattle.bh_spec.specs.Canonical.{cut, Fits}
use Rattle.h1_spec.specs.declared.Framing1.{Framing1}
use Rattle.h1_spec.specs.declared.Framing1.TheVariants.{Empty, Counted, Chunked, ToEnd}
use Rattle.bh_spec.specs.declared.NoForm.{NoForm}
use Rattle.bh_spec.specs.declared.NoForm.TheVariants as no
use Rattle.h1_spec.specs.Grammar.{crlf}
use Rattle.h1_spec.specs.Heads.{three_digits}
use Rattle.h1_spec.specs.Cleaning.{is_empty, values_of, hops, clean, clean_trailers, clean_interim, clean_message, says_host}
use Rattle.h1_spec.specs.Framing.{lengths, is_bodyless}
use Rattle.h1_spec.specs.Http1.{interims_of}

-- ---- the text

abbrev pub field_line : Field → List ℕ
field_line field = field.name ++ (codes ": " ++ (field.value ++ crlf))

abbrev pub field_lines : List Field → List ℕ
field_lines fields = flat_map field_line fields

-- the reason is left empty
abbrev pub status_text : ℕ → List ℕ
status_text status = codes "HTTP/1.1 " ++ (three_digits status ++ (32 ∷ crlf))

-- the path, or with an authority the whole, without the star of OPTIONS (RFC 9112, sections 3.2.1, 3.2.2 and 3.2.4)
abbrev pub target_text : Control → List ℕ
target_text c = cond (is_empty c.authority) c.path
    (c.scheme ++ (codes "://" ++ (c.authority ++ cond (bytes_eq c.path (codes "*")) [] c.path)))

-- what the control data says of the host
abbrev pub host_lines : Control → List Field
host_lines c = cond (is_empty c.authority) [] (record { name = codes "host"; value = c.authority } ∷ [])

abbrev pub interim_text : Interim → List ℕ
interim_text interim = status_text interim.status ++ (field_lines interim.fields ++ crlf)

abbrev pub interims_text : Start → List ℕ
interims_text (request c) = []
interims_text (response interims status) = flat_map interim_text interims

abbrev pub start_line : Start → List ℕ
start_line (request c) = c.method ++ (32 ∷ (target_text c ++ (codes " HTTP/1.1" ++ crlf)))
start_line (response interims status) = status_text status

-- the host line that the control data says, which comes first
abbrev pub said_host : Start → List Field
said_host (request c) = host_lines c
said_host (response interims status) = []

-- lower-case hexadecimal digits without leading zeros, in at most so many turns
abbrev pub hex_within : ℕ → ℕ → List ℕ
hex_within zero n = []
hex_within (suc turns) n = cond (nat_lt n 16) (digit_char n ∷ []) (hex_within turns (n / 16) ++ (digit_char (n % 16) ∷ []))

abbrev pub chunk_text : List ℕ → List ℕ
chunk_text chunk = hex_within 15 (length chunk) ++ (crlf ++ (chunk ++ crlf))

-- a response that has no body
abbrev pub has_no_body : Bool → Start → Bool
has_no_body to_head (request control) = false
has_no_body to_head (response interims status) = is_bodyless to_head status

-- a request without content and trailers
abbrev pub is_bare : Message → Start → Bool
is_bare m (request control) = nat_eq (length m.content) 0 && nat_eq (length m.trailers) 0
is_bare m (response interims status) = false

abbrev pub framing_by : List (List ℕ) → Bool → Framing1
framing_by (value ∷ more) bare = Counted (digits_value 10 value)
framing_by [] true = Empty
framing_by [] false = Chunked

-- how the body of a message is written: not at all, by its content length, or else in chunks
abbrev pub framing_written : Bool → Message → Framing1
framing_written to_head m = cond (has_no_body to_head m.start) Empty (framing_by (lengths m.fields) (is_bare m m.start))

abbrev pub coding_lines : Framing1 → List Field
coding_lines Chunked = record { name = codes "transfer-encoding"; value = codes "chunked" } ∷ []
coding_lines Empty = []
coding_lines (Counted n) = []
coding_lines ToEnd = []

-- in chunks of 8,192 bytes and a shorter last one
abbrev pub body_text : Framing1 → Message → List ℕ
body_text Empty m = []
body_text (Counted n) m = m.content
body_text ToEnd m = m.content
body_text Chunked m = flat_map chunk_text (cut 8192 m.content) ++ (codes "0" ++ (crlf ++ (field_lines m.trailers ++ crlf)))

-- the head: of a request, or of a final response
abbrev pub head_text : Framing1 → Message → List ℕ
head_text framing m = start_line m.start ++ (field_lines (said_host m.start ++ (m.fields ++ coding_lines framing)) ++ crlf)

-- the text of a message as it stands
abbrev pub text_of : Bool → Message → List ℕ
text_of to_head m = let framing = framing_written to_head m in interims_text m.start ++ (head_text framing m ++ body_text framing m)

-- the one text that is written for a message: that of the cleaned message
abbrev pub http1 : Bool → Message → List ℕ
http1 to_head m = text_of to_head (clean_message m)

-- The text keeps the limits: so does the message, and each head and the trailer section of the text are within theirs.
pub record KeepsLimits (L : Bounds) (to_head : Bool) (m : Message) : Type 0 where
  pub fits : Fits L m
  pub interims : All (λ interim. IsWithin L.section (length (interim_text interim))) (interims_of m.start)
  pub head : IsWithin L.section (length (head_text (framing_written to_head m) m))
  pub trailers : IsWithin L.section (length (field_lines m.trailers ++ crlf))

-- ---- why there is none

-- the name of a pseudo-field
abbrev pub is_pseudo : Field → Bool
is_pseudo field = list_any (λ byte. nat_eq byte 58) field.name

abbrev pub has_bad_value : List Field → Bool
has_bad_value fields = not (list_all (λ (field : Field). list_all is_text_value field.value) fields)

-- One host line, an authority, where the control data has none; else at most one, and it says the same in any case of letters.
abbrev pub is_host : List ℕ → List (List ℕ) → Bool
is_host [] (value ∷ []) = list_all is_authority value
is_host (byte ∷ rest) [] = true
is_host (byte ∷ rest) (value ∷ []) = bytes_eq (lower value) (lower (byte ∷ rest))
is_host [] [] = false
is_host [] (value ∷ other ∷ more) = false
is_host (byte ∷ rest) (value ∷ other ∷ more) = false

abbrev pub is_length : List (List ℕ) → Bool
is_length [] = true
is_length (value ∷ []) = nat_le 1 (length value) && (nat_le (length value) 18 && list_all is_digit value)
is_length (value ∷ other ∷ more) = false

-- one rule: the reason, and whether it holds
abbrev pub Case : Type 0
Case = NoForm × Bool

abbrev pub of_interim : Interim → List Case
of_interim i = (no.Switching, nat_eq i.status 101)
    ∷ (no.Pseudo, list_any is_pseudo i.fields)
    ∷ (no.ValueByte, has_bad_value (clean_interim i).fields)
    ∷ []

-- of the header section
abbrev pub of_fields : Start → List Field → List Case
of_fields start fields = (no.Pseudo, list_any is_pseudo fields)
    ∷ (no.ValueByte, has_bad_value (clean (hops fields) (says_host start) fields))
    ∷ []

abbrev pub is_web : List ℕ → Bool
is_web scheme = bytes_eq scheme (codes "http") || bytes_eq scheme (codes "https")

-- of what stands before the content, in the order of the message
abbrev pub of_head : Start → List Field → List Case
of_head (request c) fields = (no.Connect, bytes_eq c.method (codes "CONNECT"))
    ∷ (no.Scheme, not (is_web c.scheme))
    ∷ (of_fields (request c) fields
    ++ ((no.Host, not (is_host c.authority (values_of (codes "host") fields)))
    ∷ (no.LengthField, not (is_length (lengths fields)))
    ∷ []))
of_head (response interims status) fields = flat_map of_interim interims
    ++ (of_fields (response interims status) fields
    ++ ((no.LengthField, not (is_length (lengths fields)))
    ∷ []))

-- of the content and the trailer section of a message with this framing: a byte of content that goes too far, and then the trailers
abbrev pub of_body : Framing1 → List ℕ → List Field → List Case
of_body Empty content trailers = (no.Bodyless, not (nat_eq (length content) 0))
    ∷ (no.ValueByte, has_bad_value trailers)
    ∷ (no.Bodyless, not (nat_eq (length trailers) 0))
    ∷ []
of_body (Counted n) content trailers = (no.LengthDiffers n (n + 1), nat_lt n (length content))
    ∷ (no.ValueByte, has_bad_value trailers)
    ∷ (no.LengthDiffers n (length content), nat_lt (length content) n)
    ∷ (no.TrailersCounted, not (nat_eq (length trailers) 0))
    ∷ []
of_body Chunked content trailers = (no.ValueByte, has_bad_value trailers) ∷ []
of_body ToEnd content trailers = (no.ValueByte, has_bad_value trailers) ∷ []

-- all rules, in the order in which a reader of the message meets them
abbrev pub cases_of : Bool → Message → List Case
cases_of to_head m = of_head m.start m.fields
    ++ of_body (framing_written to_head (clean_message m)) m.content (clean_trailers (hops m.fields) m.trailers)

-- the first that holds, or none: then the message has a text
abbrev pub no_form : Bool → Message → Option NoForm
no_form to_head m = option_map (λ one. one.0) (find (λ one. one.1) (cases_of to_head m))
