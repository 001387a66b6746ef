-- Heads: a start line, field lines and an empty line (RFC 9112, sections 2.1, 3, 4 and 5).
use Rattle.std.specs.Prelude.{ℕ, ◌≡◌, ◌<◌, ◌≤◌, ◌+◌, ◌/◌, ◌%◌, List, [], ◌∷◌, ◌++◌, length, take, All, codes, IsTrue, IsFalse, Bool, nat_lt, not, ◌&&◌, slice_index, ◌-◌}
use Rattle.bh_spec.specs.Bytes.{is_one_of, is_text_value, is_blank, lower}
use Rattle.bh_spec.specs.Messages.{Field, IsToken}
use Rattle.bh_spec.specs.Texts.{◌then◌, AreEach}
use Rattle.h1_spec.specs.Grammar.{Is, crlf, Line}

pub data StartLine : Type 0 where
  -- a method and a target
  request_line : List ℕ → List ℕ → StartLine
  -- a status
  status_line : ℕ → StartLine

-- A head, its names in lower case.
pub record Head : Type 0 where
  pub start : StartLine
  pub fields : List Field

-- a byte of a target, before the target's form is looked at: every byte but SP, CR and LF (RFC 9112, section 3.2)
abbrev pub is_target : ℕ → Bool
is_target byte = nat_lt byte 256 && not (is_one_of (32 ∷ 13 ∷ 10 ∷ []) byte)

pub record IsRawTarget (target : List ℕ) : Type 0 where
  pub nonempty : 0 < length target
  pub each : All (λ byte. IsTrue (is_target byte)) target

-- the three digits of a status (RFC 9112, section 4)
abbrev pub three_digits : ℕ → List ℕ
three_digits status = (48 + status / 100) ∷ (48 + status / 10 % 10) ∷ (48 + status % 10) ∷ []

-- METHOD SP TARGET SP HTTP/1.1, or HTTP/1.1 SP STATUS SP and any reason, which may be empty (RFC 9112, sections 3 and 4)
abbrev pub IsStartLine : StartLine → List ℕ → Type 0
IsStartLine (request_line method target) line = IsToken method × IsRawTarget target
    × (line ≡ method ++ (32 ∷ (target ++ codes " HTTP/1.1")))
IsStartLine (status_line status) line = (100 ≤ status) × (status ≤ 599)
    × ((reason : List ℕ) × All (λ byte. IsTrue (is_text_value byte)) reason
    × (line ≡ codes "HTTP/1.1 " ++ (three_digits status ++ (32 ∷ reason))))

abbrev pub AreBlank : List ℕ → Type 0
AreBlank bytes = All (λ byte. IsTrue (is_blank byte)) bytes

-- a value of HTTP/1.1, with no blank at either end (RFC 9110, section 5.5; past its end an empty value reads as 0, which is none)
pub record IsTextValue (value : List ℕ) : Type 0 where
  pub each : All (λ byte. IsTrue (is_text_value byte)) value
  pub first : IsFalse (is_blank (slice_index value 0))
  pub last : IsFalse (is_blank (slice_index value (length value - 1)))

-- A field as a head has it: its name in lower case, and its value without blanks around it.
pub record IsHeadField (field : Field) : Type 0 where
  pub name : IsToken field.name
  pub lower_case : lower field.name ≡ field.name
  pub value : IsTextValue field.value

-- A field line: a name in any case of letters, a colon, and the value among blanks (RFC 9112, section 5).
pub record IsFieldLine (field : Field) (line : List ℕ) : Type 0 where
  pub name : List ℕ
  pub before : List ℕ
  pub after : List ℕ
  pub token : IsToken name
  pub same_name : lower name ≡ field.name
  pub blank_before : AreBlank before
  pub value : IsTextValue field.value
  pub blank_after : AreBlank after
  pub written : line ≡ name ++ (58 ∷ (before ++ (field.value ++ after)))

-- Field lines, each with its line end, and the empty line behind them: what ends a head, and a trailer section whole.
abbrev pub IsSection : List Field → List ℕ → Type 0
IsSection fields = AreEach (λ field. Line (IsFieldLine field)) fields then Is crlf

-- A head: its start line, and its field lines with the empty line. It is the shortest prefix of itself that ends in
-- CR LF CR LF, since no line in it is empty, and none has another CR or LF.
abbrev pub IsHead : Head → List ℕ → Type 0
IsHead head = Line (IsStartLine head.start) then IsSection head.fields

-- the bytes end in CR LF CR LF
abbrev pub EndsBlank : List ℕ → Type 0
EndsBlank bytes = (before : List ℕ) × (bytes ≡ before ++ (crlf ++ crlf))

-- The shortest prefix of the bytes that ends in CR LF CR LF has so many bytes: there a head ends, right or wrong.
pub record EndsAt (bytes : List ℕ) (many : ℕ) : Type 0 where
  pub within : many ≤ length bytes
  pub ends : EndsBlank (take many bytes)
  pub first : (fewer : ℕ) → fewer < many → EndsBlank (take fewer bytes) → ⊥

-- no prefix of the bytes ends in CR LF CR LF
abbrev pub HoldsNoEnd : List ℕ → Type 0
HoldsNoEnd bytes = (many : ℕ) → EndsBlank (take many bytes) → ⊥
