-- What a request's target says (RFC 9112, section 3.2), and its host line (RFC 9110, section 7.2).
use Rattle.std.specs.Prelude.{ℕ, ◌≡◌, ◌<◌, ◌⊎◌, cond, nat_eq, List, [], ◌∷◌, ◌++◌, length, All, IsTrue, codes, bytes_eq}
use Rattle.bh_spec.specs.Bytes.{is_authority, is_path, lower}
use Rattle.bh_spec.specs.Messages.{Field, Control, IsWeb}
use Rattle.h1_spec.specs.declared.Scheme1.{Scheme1}
use Rattle.h1_spec.specs.declared.Scheme1.TheVariants.{Http, Https}
use Rattle.h1_spec.specs.Cleaning.{values_of}

abbrev pub scheme_of : Scheme1 → List ℕ
scheme_of Http = codes "http"
scheme_of Https = codes "https"

-- `*`, for OPTIONS alone (RFC 9112, section 3.2.4)
pub record IsAsteriskForm (scheme : Scheme1) (method target : List ℕ) (control : Control) : Type 0 where
  pub options : method ≡ codes "OPTIONS"
  pub star : target ≡ codes "*"
  pub gives : control ≡ record { method = method; scheme = scheme_of scheme; authority = []; path = target }

-- a path with its query; the authority stays in the host line (RFC 9112, section 3.2.1)
pub record IsOriginForm (scheme : Scheme1) (method target : List ℕ) (control : Control) : Type 0 where
  pub slash : (rest : List ℕ) × (target ≡ 47 ∷ rest)
  pub each : All (λ byte. IsTrue (is_path byte)) target
  pub gives : control ≡ record { method = method; scheme = scheme_of scheme; authority = []; path = target }

-- the path that stands behind an authority: an empty one is `/`, and `*` for OPTIONS (RFC 9110, section 4.2.3; RFC 9112, section 3.2.4)
abbrev pub path_behind : List ℕ → List ℕ → List ℕ
path_behind method [] = cond (bytes_eq method (codes "OPTIONS")) (codes "*") (codes "/")
path_behind method (byte ∷ rest) = cond (nat_eq byte 63) (47 ∷ byte ∷ rest) (byte ∷ rest)

-- what may stand behind an authority: nothing, or a path or a query
abbrev pub IsPathOrQuery : List ℕ → Type 0
IsPathOrQuery rest = (rest ≡ []) ⊎ ((byte : ℕ) × (after : List ℕ) × (rest ≡ byte ∷ after) × ((byte ≡ 47) ⊎ (byte ≡ 63)))

-- scheme, authority and path (RFC 9112, section 3.2.2)
pub record IsAbsoluteForm (method target : List ℕ) (control : Control) : Type 0 where
  pub name : List ℕ
  pub authority : List ℕ
  pub rest : List ℕ
  pub web : IsWeb (lower name)
  pub some : 0 < length authority
  pub each : All (λ byte. IsTrue (is_authority byte)) authority
  pub behind : IsPathOrQuery rest
  pub path : All (λ byte. IsTrue (is_path byte)) rest
  pub written : target ≡ name ++ (codes "://" ++ (authority ++ rest))
  pub gives : control ≡ record { method = method; scheme = lower name; authority = authority; path = path_behind method rest }

-- The target has one of the three forms, and the control data is what it says with this method. No target has two forms.
abbrev pub IsTargetOf : Scheme1 → List ℕ → List ℕ → Control → Type 0
IsTargetOf scheme method target control = IsAsteriskForm scheme method target control
    ⊎ (IsOriginForm scheme method target control ⊎ IsAbsoluteForm method target control)

-- There is one host line, and where the target names no authority its value is one or is empty.
pub record HasHost (control : Control) (fields : List Field) : Type 0 where
  pub value : List ℕ
  pub one : values_of (codes "host") fields ≡ value ∷ []
  pub each : control.authority ≡ [] → All (λ byte. IsTrue (is_authority byte)) value
