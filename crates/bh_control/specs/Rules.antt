-- Control data of a request in a reader: what was read keeps the rules, and can go on (RFC 9110, section 9.1; RFC 3986).
use Rattle.std.specs.Prelude.{ℕ, ◌≡◌, ◌<◌, ◌≤◌, ◌⊎◌, ◌+◌, List, [], ◌++◌, length, All, IsTrue, codes}
use Rattle.bh_spec.specs.declared.Width.{Width}
use Rattle.bh_spec.specs.Integers.{Begins}
use Rattle.bh_spec.specs.Bytes.{is_letter, is_token, is_scheme, is_authority, is_path}
use Rattle.bh_spec.specs.Messages.{IsPath, Control, IsControl, IsToken, IsScheme, IsWeb}
use Rattle.bh_varint.specs.Step.{IsUnfinished}
use Rattle.bh_control.specs.declared.strings.Place.{Place}
use Rattle.bh_control.specs.declared.strings.Place.TheVariants.{Method, Scheme, Authority, Path}
use Rattle.bh_control.specs.declared.progress.Phase.{Phase}
use Rattle.bh_control.specs.declared.progress.Phase.TheVariants.{Idle, Length, Bytes, Whole, Refused}
use Rattle.bh_control.specs.Phases.{Read, string_at}

abbrev pub AreAuthority : List ℕ → Type 0
AreAuthority bytes = All (λ byte. IsTrue (is_authority byte)) bytes

-- the string keeps the rule of the place, by the strings before it
abbrev pub IsValidAt : Place → Control → List ℕ → Type 0
IsValidAt Method d string = IsToken string
IsValidAt Scheme d string = IsScheme string
IsValidAt Authority d string = AreAuthority string
IsValidAt Path d string = IsPath d string

-- the strings before the place keep theirs
abbrev pub AreDone : Place → Control → Type 0
AreDone Method d = Unit {0}
AreDone Scheme d = IsToken d.method
AreDone Authority d = IsToken d.method × IsScheme d.scheme
AreDone Path d = IsToken d.method × IsScheme d.scheme × AreAuthority d.authority

-- nothing was read behind the place
abbrev pub IsAhead : Place → Control → Type 0
IsAhead Method d = (d.scheme ≡ []) × (d.authority ≡ []) × (d.path ≡ [])
IsAhead Scheme d = (d.authority ≡ []) × (d.path ≡ [])
IsAhead Authority d = d.path ≡ []
IsAhead Path d = Unit {0}

-- some string that keeps the rule has so many bytes behind what was kept
pub record Opens (place : Place) (d : Control) (kept : List ℕ) (left : ℕ) : Type 0 where
  pub more : List ℕ
  pub long : length more ≡ left
  pub valid : IsValidAt place d (kept ++ more)

-- some string of at most so many bytes that keeps the rule has a length that begins with the bytes
pub record OpensBehind (place : Place) (d : Control) (most : ℕ) (begun : List ℕ) : Type 0 where
  pub long : ℕ
  pub width : Width
  pub begins : Begins begun long width
  pub within : long ≤ most
  pub opens : Opens place d [] long

-- the least number of bytes that a string of the place may have
abbrev pub IsLeast : Place → Control → ℕ → Type 0
IsLeast Method d least = least ≡ 1
IsLeast Scheme d least = least ≡ 1
IsLeast Authority d least = least ≡ 0
IsLeast Path d least = (IsWeb d.scheme × (least ≡ 1)) ⊎ ((IsWeb d.scheme → ⊥) × (least ≡ 0))

-- a first byte of a path of the web is a slash, or the star of OPTIONS
abbrev pub BeginsPath : Control → List ℕ → ℕ → ℕ → Type 0
BeginsPath c kept left byte = kept ≡ [] → IsWeb c.scheme → (byte ≡ 47) ⊎ ((c.method ≡ codes "OPTIONS") × (byte ≡ 42) × (left ≡ 0))

-- the string may go on with the byte, with so many bytes behind it
abbrev pub IsTakenAt : Place → Control → List ℕ → ℕ → ℕ → Type 0
IsTakenAt Method d kept left byte = IsTrue (is_token byte)
IsTakenAt Scheme d kept left byte = IsTrue (is_scheme byte) × (kept ≡ [] → IsTrue (is_letter byte))
IsTakenAt Authority d kept left byte = IsTrue (is_authority byte)
IsTakenAt Path d kept left byte = IsTrue (is_path byte) × BeginsPath d kept left byte

pub record OpenLength (place : Place) (most : ℕ) (r : Read) : Type 0 where
  pub done : AreDone place r.control
  pub none : string_at place r.control ≡ []
  pub ahead : IsAhead place r.control
  pub unfinished : IsUnfinished r.begun
  pub opens : OpensBehind place r.control most r.begun

pub record OpenBytes (place : Place) (left most : ℕ) (r : Read) : Type 0 where
  pub done : AreDone place r.control
  pub ahead : IsAhead place r.control
  pub some : 0 < left
  pub opens : Opens place r.control (string_at place r.control) left
  pub room : length (string_at place r.control) + left ≤ most
  pub none : r.begun ≡ []

-- what was read goes on, or is whole
abbrev pub IsOpenAt : Phase → ℕ → Read → Type 0
IsOpenAt Idle most r = ⊥
IsOpenAt (Length place) most r = OpenLength place most r
IsOpenAt (Bytes place left) most r = OpenBytes place left most r
IsOpenAt Whole most r = IsControl r.control
IsOpenAt Refused most r = ⊥

abbrev pub IsOpen : ℕ → Read → Type 0
IsOpen most r = IsOpenAt r.phase most r
