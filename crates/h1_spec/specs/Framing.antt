-- Which body a message has (RFC 9112, section 6.3).
use Rattle.std.specs.Prelude.{ℕ, ◌≡◌, ◌≤◌, ◌⊎◌, Bool, cond, ◌||◌, nat_eq, List, [], ◌∷◌, length, All, IsTrue, codes}
use Rattle.std.specs.Str.Parse.{digits_value}
use Rattle.bh_spec.specs.Bytes.{is_digit, lower}
use Rattle.bh_spec.specs.Messages.{Field}
use Rattle.h1_spec.specs.declared.Framing1.{Framing1}
use Rattle.h1_spec.specs.declared.Framing1.TheVariants.{Empty, Counted, Chunked, ToEnd}
use Rattle.h1_spec.specs.Heads.{StartLine, request_line, status_line, Head}
use Rattle.h1_spec.specs.Cleaning.{values_of}

abbrev pub codings : List Field → List (List ℕ)
codings fields = values_of (codes "transfer-encoding") fields

abbrev pub lengths : List Field → List (List ℕ)
lengths fields = values_of (codes "content-length") fields

-- No transfer coding, or one line that says `chunked` in any case of letters, with no content length beside it (RFC 9112,
-- sections 6.1 and 6.3).
abbrev pub IsCoded : List Field → Type 0
IsCoded fields = (codings fields ≡ [])
    ⊎ ((value : List ℕ) × (codings fields ≡ value ∷ []) × (lower value ≡ codes "chunked") × (lengths fields ≡ []))

-- a length of 1 to 18 decimal digits (RFC 9110, section 8.6)
pub record IsLength (value : List ℕ) : Type 0 where
  pub some : 1 ≤ length value
  pub few : length value ≤ 18
  pub each : All (λ byte. IsTrue (is_digit byte)) value

-- no content length, or one
abbrev pub IsCounted : List Field → Type 0
IsCounted fields = (lengths fields ≡ []) ⊎ ((value : List ℕ) × (lengths fields ≡ value ∷ []) × IsLength value)

-- a response that has no body whatever its fields say: to a HEAD request, or with a status of 204 or 304 (RFC 9110,
-- sections 9.3.2, 15.3.5 and 15.4.5)
abbrev pub is_bodyless : Bool → ℕ → Bool
is_bodyless to_head status = to_head || (nat_eq status 204 || nat_eq status 304)

-- the body by the first transfer coding, the first content length, or neither
abbrev pub body_by : Framing1 → List (List ℕ) → List (List ℕ) → Framing1
body_by otherwise (coding ∷ more) counts = Chunked
body_by otherwise [] (value ∷ more) = Counted (digits_value 10 value)
body_by otherwise [] [] = otherwise

-- The body behind a request's head, or a final response's: where its fields say neither, a request has none, and a
-- response's lasts to the end.
abbrev pub framing_behind : Bool → StartLine → List Field → Framing1
framing_behind to_head (request_line method target) fields = body_by Empty (codings fields) (lengths fields)
framing_behind to_head (status_line status) fields = cond (is_bodyless to_head status) Empty (body_by ToEnd (codings fields)
    (lengths fields))

abbrev pub framing : Bool → Head → Framing1
framing to_head head = framing_behind to_head head.start head.fields
