-- What the call about a request's target answers.
use Rattle.std.specs.Prelude.{ℕ, ◌≡◌, ◌<◌, ◌⊎◌, List, [], ◌∷◌, ◌++◌, All, IsTrue, codes, length, Result, Ok, Err}
use Rattle.bh_spec.specs.Bytes.{is_authority, is_path, lower}
use Rattle.bh_spec.specs.Messages.{Field, Control}
use Rattle.bh_model.specs.declared.control_data.Control as stored
use Rattle.bh_model.specs.Values.{control_of}
use Rattle.h1_spec.specs.declared.Scheme1.{Scheme1}
use Rattle.h1_spec.specs.Cleaning.{values_of}
use Rattle.h1_spec.specs.Heads.{StartLine, request_line, status_line, Head}
use Rattle.h1_spec.specs.Targets.{IsTargetOf, IsAbsoluteForm, HasHost}
use Rattle.h1_rules.specs.declared.targets.TargetWhy.{TargetWhy}
use Rattle.h1_rules.specs.declared.targets.TargetWhy.TheVariants.{Connect, Target, Host, NoMemory}
use Rattle.h1_rules.specs.declared.targets.TargetParts.{TargetParts}

abbrev pub IsRequest : StartLine → Type 0
IsRequest (request_line method target) = Unit {0}
IsRequest (status_line status) = ⊥

abbrev pub IsConnect : List ℕ → Type 0
IsConnect method = method ≡ codes "CONNECT"

-- the target has none of the forms
abbrev pub HasNoForm : Scheme1 → List ℕ → List ℕ → Type 0
HasNoForm scheme method target = (control : Control) → IsTargetOf scheme method target control → ⊥

-- the control data of a request with this method, of the parts that its target has
abbrev pub control_by : List ℕ → TargetParts → Control
control_by method parts = record {
  method = method;
  scheme = parts.scheme.now;
  authority = parts.authority.now;
  path = parts.front.now ++ parts.rest.now;
}

-- the target and the fields say this control data
pub record SaysControl (scheme : Scheme1) (method target : List ℕ) (fields : List Field) (control : Control) : Type 0 where
  pub no_connect : IsConnect method → ⊥
  pub form : IsTargetOf scheme method target control
  pub host : HasHost control fields

-- The first of the three rules that doesn't hold.
abbrev pub IsWhy : Scheme1 → List ℕ → List ℕ → List Field → TargetWhy → Type 0
IsWhy scheme method target fields Connect = IsConnect method
IsWhy scheme method target fields Target = (IsConnect method → ⊥) × HasNoForm scheme method target
IsWhy scheme method target fields Host = (IsConnect method → ⊥)
    × ((control : Control) × IsTargetOf scheme method target control × (HasHost control fields → ⊥))
IsWhy scheme method target fields NoMemory = ⊥

-- The control data that a request's target says, as its parts; or the first of the three rules that doesn't hold.
abbrev pub IsPartsAnswer : Scheme1 → List ℕ → List ℕ → List Field → Result TargetParts TargetWhy → Type 0
IsPartsAnswer scheme method target fields (Ok parts) = SaysControl scheme method target fields (control_by method parts)
IsPartsAnswer scheme method target fields (Err why) = IsWhy scheme method target fields why

-- The same in memory of its own, for which there may be none.
abbrev pub IsControlAnswer : Scheme1 → List ℕ → List ℕ → List Field → Result stored.Control TargetWhy → Type 0
IsControlAnswer scheme method target fields (Ok control) = SaysControl scheme method target fields (control_of control)
IsControlAnswer scheme method target fields (Err Connect) = IsWhy scheme method target fields Connect
IsControlAnswer scheme method target fields (Err Target) = IsWhy scheme method target fields Target
IsControlAnswer scheme method target fields (Err Host) = IsWhy scheme method target fields Host
IsControlAnswer scheme method target fields (Err NoMemory) = Unit {0}

abbrev pub AnswersStart : Scheme1 → StartLine → List Field → Result stored.Control TargetWhy → Type 0
AnswersStart scheme (request_line method target) fields result = IsControlAnswer scheme method target fields result
AnswersStart scheme (status_line status) fields result = ⊥

abbrev pub IsTargetAnswer : Scheme1 → Head → Result stored.Control TargetWhy → Type 0
IsTargetAnswer scheme head result = AnswersStart scheme head.start head.fields result

-- a star for OPTIONS, or a path
abbrev pub IsBare : List ℕ → List ℕ → Type 0
IsBare method target = ((method ≡ codes "OPTIONS") × (target ≡ codes "*"))
    ⊎ (((rest : List ℕ) × (target ≡ 47 ∷ rest)) × All (λ byte. IsTrue (is_path byte)) target)

abbrev pub NamesNoScheme : List ℕ → List ℕ → Type 0
NamesNoScheme method target = (control : Control) → IsAbsoluteForm method target control → ⊥

-- a scheme in any case of letters, `://`, and a rest
pub record IsSchemed (scheme rest target : List ℕ) : Type 0 where
  pub name : List ℕ
  pub same : lower name ≡ scheme
  pub written : target ≡ name ++ (codes "://" ++ rest)

-- one host line, whose value is an authority or is empty where the target names none
pub record IsHost (authority : List ℕ) (fields : List Field) : Type 0 where
  pub value : List ℕ
  pub one : values_of (codes "host") fields ≡ value ∷ []
  pub each : authority ≡ [] → All (λ byte. IsTrue (is_authority byte)) value

-- the authority of a target
pub record IsSomeAuthority (authority : List ℕ) : Type 0 where
  pub some : 0 < length authority
  pub each : All (λ byte. IsTrue (is_authority byte)) authority

-- where an authority ends
abbrev pub Ends : ℕ → Type 0
Ends byte = (byte ≡ 47) ⊎ (byte ≡ 63)
