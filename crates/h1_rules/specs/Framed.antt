-- What the calls about a head's body answer.
use Rattle.std.specs.Prelude.{ℕ, ◌≡◌, ◌≤◌, Bool, true, false, List, [], ◌∷◌, Option, Some, None, Result, Ok, Err}
use Rattle.std.specs.Str.Parse.{digits_value}
use Rattle.bh_spec.specs.Messages.{Field}
use Rattle.bh_spec.specs.declared.H1Why.{H1Why}
use Rattle.bh_spec.specs.declared.H1Why.TheVariants as why
use Rattle.h1_spec.specs.declared.Framing1.{Framing1}
use Rattle.h1_spec.specs.declared.Framing1.TheVariants.{Empty, Counted, Chunked, ToEnd}
use Rattle.h1_spec.specs.Heads.{StartLine, request_line, status_line, Head}
use Rattle.h1_spec.specs.Framing.{codings, lengths, IsCoded, IsLength, IsCounted, is_bodyless, framing}
use Rattle.h1_spec.specs.Causes.{◌when◌else◌, nothing}

-- a request's start, or a final response's: the head of an informational response has no body (RFC 9110, section 15.2)
abbrev pub IsFinal : StartLine → Type 0
IsFinal (request_line method target) = Unit {0}
IsFinal (status_line status) = 200 ≤ status

-- The body that the head says; or the coding is refused, or else the length.
abbrev pub IsFramingAnswer : Bool → Head → Result Framing1 H1Why → Type 0
IsFramingAnswer to_head head (Ok body) = IsCoded head.fields × IsCounted head.fields × (body ≡ framing to_head head)
IsFramingAnswer to_head head (Err cause) = (why.Coding when (IsCoded head.fields → ⊥) else why.Length when (IsCounted head.fields → ⊥)
    else nothing) cause

-- whether there is a coding, or none where it is refused
abbrev pub IsCodingAnswer : List Field → Option Bool → Type 0
IsCodingAnswer fields None = IsCoded fields → ⊥
IsCodingAnswer fields (Some false) = codings fields ≡ []
IsCodingAnswer fields (Some true) = IsCoded fields × ((value : List ℕ) × (codings fields ≡ value ∷ []))

-- the length, or that there is none; or none of both where it is refused
abbrev pub IsLengthAnswer : List Field → Option (Option ℕ) → Type 0
IsLengthAnswer fields None = IsCounted fields → ⊥
IsLengthAnswer fields (Some None) = lengths fields ≡ []
IsLengthAnswer fields (Some (Some n)) = (value : List ℕ) × (lengths fields ≡ value ∷ []) × IsLength value × (n ≡ digits_value 10 value)

-- the status that a start says, if it is a response's
abbrev pub status_said : StartLine → Option ℕ
status_said (request_line method target) = None
status_said (status_line status) = Some status

-- the start says that there is no body, whatever the fields say
abbrev pub is_empty_by : Bool → Option ℕ → Bool
is_empty_by to_head None = false
is_empty_by to_head (Some status) = is_bodyless to_head status

-- the body where the fields say none
abbrev pub unsaid : Option ℕ → Framing1
unsaid None = Empty
unsaid (Some status) = ToEnd

abbrev pub said_by : Framing1 → Bool → Option ℕ → Framing1
said_by otherwise true length = Chunked
said_by otherwise false (Some n) = Counted n
said_by otherwise false None = otherwise
