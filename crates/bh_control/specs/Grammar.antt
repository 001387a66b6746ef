-- Control data of a request in a reader: which texts complete it (RFC 9292, section 3.4).
use Rattle.std.specs.Prelude.{ℕ, ◌≡◌, ◌<◌, List, [], ◌∷◌, ◌++◌, length}
use Rattle.bh_spec.specs.declared.Part.{Part}
use Rattle.bh_spec.specs.declared.Width.{Width}
use Rattle.bh_spec.specs.Integers.{vi, limit_of}
use Rattle.bh_spec.specs.Bounds.{Bounds, IsWithin}
use Rattle.bh_spec.specs.Bytes.{lower}
use Rattle.bh_spec.specs.Messages.{Control, IsControl}
use Rattle.bh_spec.specs.Texts.{Text, mark}
use Rattle.bh_control.specs.declared.strings.Place.{Place}
use Rattle.bh_control.specs.declared.strings.Place.TheVariants.{Method, Scheme, Authority, Path}
use Rattle.bh_control.specs.declared.progress.Phase.{Phase}
use Rattle.bh_control.specs.declared.progress.Phase.TheVariants.{Idle, Length, Bytes, Whole, Refused}
use Rattle.bh_control.specs.Phases.{Read, long_of, part_of, string_at, part_now}

-- the string of the place is what was kept and then these bytes, in a scheme in any case of letters
abbrev pub Holds : Place → Control → List ℕ → List ℕ → Type 0
Holds Method c kept more = kept ++ more ≡ c.method
Holds Scheme c kept more = kept ++ lower more ≡ c.scheme
Holds Authority c kept more = kept ++ more ≡ c.authority
Holds Path c kept more = kept ++ more ≡ c.path

-- the length and the string of the place, and then a text of A
pub record HasString (K : Bounds) (place : Place) (c : Control) (A : Text → Type 0) (t : Text) : Type 0 where
  pub string : List ℕ
  pub width : Width
  pub rest : Text
  pub fits : length string < limit_of width
  pub within : IsWithin K.part (length string)
  pub holds : Holds place c [] string
  pub behind : A rest
  pub joined : mark (long_of place) (vi (length string) width) ++ (mark (part_of place) string ++ rest) ≡ t

abbrev pub BehindPath : Text → Type 0
BehindPath t = t ≡ []

abbrev pub BehindAuthority : Bounds → Control → Text → Type 0
BehindAuthority K c t = HasString K Path c BehindPath t

abbrev pub BehindScheme : Bounds → Control → Text → Type 0
BehindScheme K c t = HasString K Authority c (BehindAuthority K c) t

abbrev pub BehindMethod : Bounds → Control → Text → Type 0
BehindMethod K c t = HasString K Scheme c (BehindScheme K c) t

-- what stands behind the string of the place
abbrev pub Behind : Bounds → Place → Control → Text → Type 0
Behind K Method c t = BehindMethod K c t
Behind K Scheme c t = BehindScheme K c t
Behind K Authority c t = BehindAuthority K c t
Behind K Path c t = BehindPath t

-- so many more bytes of the string of the place, and what stands behind it
pub record HasRest (K : Bounds) (place : Place) (c : Control) (kept : List ℕ) (left : ℕ) (t : Text) : Type 0 where
  pub more : List ℕ
  pub rest : Text
  pub long : length more ≡ left
  pub holds : Holds place c kept more
  pub behind : Behind K place c rest
  pub joined : mark (part_of place) more ++ rest ≡ t

-- the strings before the place are those that were read
abbrev pub Agrees : Place → Control → Control → Type 0
Agrees Method d c = Unit {0}
Agrees Scheme d c = d.method ≡ c.method
Agrees Authority d c = (d.method ≡ c.method) × (d.scheme ≡ c.scheme)
Agrees Path d c = (d.method ≡ c.method) × (d.scheme ≡ c.scheme) × (d.authority ≡ c.authority)

-- The text completes the control data c.
abbrev pub RestAt : Bounds → Phase → Read → Control → Text → Type 0
RestAt K Idle r c t = ⊥
RestAt K (Length place) r c t = IsControl c × Agrees place r.control c
    × HasString K place c (Behind K place c) (mark (long_of place) r.begun ++ t)
RestAt K (Bytes place left) r c t = IsControl c × Agrees place r.control c × HasRest K place c (string_at place r.control) left t
RestAt K Whole r c t = IsControl c × (r.control ≡ c) × (t ≡ [])
RestAt K Refused r c t = ⊥

abbrev pub Rest : Bounds → Read → Control → Text → Type 0
Rest K r c t = RestAt K r.phase r c t

-- ---- a byte more

-- with the byte r becomes s: the same texts complete them
pub record Steps (K : Bounds) (r : Read) (byte : ℕ) (s : Read) : Type 0 where
  pub on : (c : Control) (t : Text) → Rest K r c ((part_now r.phase, byte) ∷ t) → Rest K s c t
  pub back : (c : Control) (t : Text) → Rest K s c t → Rest K r c ((part_now r.phase, byte) ∷ t)

-- no text that completes r begins with the byte
abbrev pub HasNone : Bounds → Read → ℕ → Type 0
HasNone K r byte = (c : Control) (part : Part) (t : Text) → Rest K r c ((part, byte) ∷ t) → ⊥

-- some does
pub record HasSome (K : Bounds) (r : Read) (byte : ℕ) : Type 0 where
  pub control : Control
  pub text : Text
  pub rest : Rest K r control ((part_now r.phase, byte) ∷ text)
