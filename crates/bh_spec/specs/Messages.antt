-- Messages (RFC 9292, section 3), and which of them are valid in this profile (docs/FORMAT.md, "Messages and their validity").
use Rattle.std.specs.Prelude.{ℕ, ◌≡◌, ◌<◌, ◌≤◌, ◌⊎◌, List, ◌∷◌, ◌++◌, length, All, codes, IsTrue, IsFalse, slice_index, ◌-◌}
use Rattle.bh_spec.specs.declared.Kind.{Kind}
use Rattle.bh_spec.specs.declared.Kind.TheVariants.{Request, Response}
use Rattle.bh_spec.specs.Bytes.{AreBytes, is_letter, is_token, is_scheme, is_authority, is_path, is_value, is_blank, lower}

pub record Field : Type 0 where
  pub name : List ℕ
  pub value : List ℕ

pub record Control : Type 0 where
  pub method : List ℕ
  pub scheme : List ℕ
  pub authority : List ℕ
  pub path : List ℕ

pub record Interim : Type 0 where
  pub status : ℕ
  pub fields : List Field

pub data Start : Type 0 where
  request : Control → Start
  response : List Interim → ℕ → Start

pub record Message : Type 0 where
  pub start : Start
  pub fields : List Field
  pub content : List ℕ
  pub trailers : List Field

abbrev pub kind_of : Start → Kind
kind_of (request control) = Request
kind_of (response interims status) = Response

-- one or more token bytes
pub record IsToken (bytes : List ℕ) : Type 0 where
  pub nonempty : 0 < length bytes
  pub each : All (λ byte. IsTrue (is_token byte)) bytes

-- one of the five names of control data (RFC 9292, section 3.6)
abbrev pub IsControlName : List ℕ → Type 0
IsControlName name = (name ≡ codes ":method")
    ⊎ ((name ≡ codes ":scheme") ⊎ ((name ≡ codes ":authority") ⊎ ((name ≡ codes ":path") ⊎ (name ≡ codes ":status"))))

-- a colon and a token, but no name of control data
pub record IsPseudo (name : List ℕ) : Type 0 where
  pub colon : (rest : List ℕ) × (name ≡ 58 ∷ rest) × IsToken rest
  pub other : IsControlName name → ⊥

-- value bytes, with no blank at either end (past its end an empty value reads as 0, which is none)
pub record IsValue (value : List ℕ) : Type 0 where
  pub each : All (λ byte. IsTrue (is_value byte)) value
  pub first : IsFalse (is_blank (slice_index value 0))
  pub last : IsFalse (is_blank (slice_index value (length value - 1)))

pub record IsRegularField (field : Field) : Type 0 where
  pub name : IsToken field.name
  pub lower_case : lower field.name ≡ field.name
  pub value : IsValue field.value

pub record IsPseudoField (field : Field) : Type 0 where
  pub name : IsPseudo field.name
  pub lower_case : lower field.name ≡ field.name
  pub value : IsValue field.value

-- a header section or an interim response's section: pseudo-fields first
abbrev pub AreHeaders : List Field → Type 0
AreHeaders fields = (pseudo regular : List Field) × (fields ≡ pseudo ++ regular) × All IsPseudoField pseudo × All IsRegularField regular

-- a trailer section: no pseudo-fields
abbrev pub AreTrailers : List Field → Type 0
AreTrailers fields = All IsRegularField fields

pub record IsScheme (scheme : List ℕ) : Type 0 where
  pub letter : (byte : ℕ) × (rest : List ℕ) × (scheme ≡ byte ∷ rest) × IsTrue (is_letter byte)
  pub each : All (λ byte. IsTrue (is_scheme byte)) scheme
  pub lower_case : lower scheme ≡ scheme

-- the schemes of the web
abbrev pub IsWeb : List ℕ → Type 0
IsWeb scheme = (scheme ≡ codes "http") ⊎ (scheme ≡ codes "https")

-- with such a scheme a path begins with a slash, or is the star of OPTIONS
abbrev pub IsWebPath : Control → List ℕ → Type 0
IsWebPath c path = IsWeb c.scheme → ((rest : List ℕ) × (path ≡ 47 ∷ rest)) ⊎ ((c.method ≡ codes "OPTIONS") × (path ≡ codes "*"))

pub record IsPath (c : Control) (path : List ℕ) : Type 0 where
  pub each : All (λ byte. IsTrue (is_path byte)) path
  pub web : IsWebPath c path

pub record IsControl (c : Control) : Type 0 where
  pub method : IsToken c.method
  pub scheme : IsScheme c.scheme
  pub authority : All (λ byte. IsTrue (is_authority byte)) c.authority
  pub path : IsPath c c.path

-- the status of an informational response (RFC 9110, section 15.2; RFC 9292, section 3.5.1)
pub record IsInterimStatus (status : ℕ) : Type 0 where
  pub low : 100 ≤ status
  pub high : status ≤ 199

-- the status of a final response (RFC 9110, section 15; RFC 9292, section 3.5)
pub record IsFinalStatus (status : ℕ) : Type 0 where
  pub low : 200 ≤ status
  pub high : status ≤ 599

pub record IsInterim (interim : Interim) : Type 0 where
  pub number : IsInterimStatus interim.status
  pub fields : AreHeaders interim.fields

pub record IsResponse (interims : List Interim) (status : ℕ) : Type 0 where
  pub each : All IsInterim interims
  pub final : IsFinalStatus status

abbrev pub IsStart : Start → Type 0
IsStart (request control) = IsControl control
IsStart (response interims status) = IsResponse interims status

pub record IsValid (m : Message) : Type 0 where
  pub start : IsStart m.start
  pub fields : AreHeaders m.fields
  pub content : AreBytes m.content
  pub trailers : AreTrailers m.trailers
