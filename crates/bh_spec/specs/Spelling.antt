-- The texts that spell a message (RFC 9292, section 3).
use Rattle.std.specs.Prelude.{ℕ, ◌≡◌, List, length}
use Rattle.bh_spec.specs.Bounds.{Bounds, IsWithin}
use Rattle.bh_spec.specs.Bytes.{lower}
use Rattle.bh_spec.specs.Messages.{Control, Message, Interim, Start, request, response, kind_of, IsValid}
use Rattle.bh_spec.specs.Texts.{Text, IsNumber, ◌then◌, AreEach, IsString}
use Rattle.bh_spec.specs.Sections.{IsSection}
use Rattle.bh_spec.specs.Tails.{IsTail}
use Rattle.bh_spec.specs.declared.Kind.{Kind}
use Rattle.bh_spec.specs.declared.Kind.TheVariants.{Request, Response}
use Rattle.bh_spec.specs.declared.Part.TheVariants as parts
use Rattle.bh_spec.specs.declared.Form.{Form}
use Rattle.bh_spec.specs.declared.Form.TheVariants.{Known, Indeterminate}
use Rattle.bh_spec.specs.declared.Omitted.{Omitted}

-- The control data of a request: four strings, the scheme in any case of letters.
pub record IsRequestControl (L : Bounds) (c : Control) (t : Text) : Type 0 where
  pub scheme : List ℕ
  pub same_scheme : lower scheme ≡ c.scheme
  pub text : (IsString parts.MethodLength parts.Method c.method
      then IsString parts.SchemeLength parts.Scheme scheme
      then IsString parts.AuthorityLength parts.Authority c.authority
      then IsString parts.PathLength parts.Path c.path) t
  pub method_within : IsWithin L.part (length c.method)
  pub scheme_within : IsWithin L.part (length c.scheme)
  pub authority_within : IsWithin L.part (length c.authority)
  pub path_within : IsWithin L.part (length c.path)

-- An interim response: its status and its section.
abbrev pub IsInterimText : Bounds → Form → Interim → Text → Type 0
IsInterimText L form interim t = (IsNumber parts.Status interim.status then IsSection L form interim.fields) t

-- The interim responses, and the control data.
abbrev pub IsStartText : Bounds → Form → Start → Text → Type 0
IsStartText L form (request control) t = IsRequestControl L control t
IsStartText L form (response interims status) t = IsWithin L.interims (length interims)
    × (AreEach (IsInterimText L form) interims then IsNumber parts.Status status) t

-- the framing number (RFC 9292, section 3.3)
abbrev pub framing : Kind → Form → ℕ
framing Request Known = 0
framing Response Known = 1
framing Request Indeterminate = 2
framing Response Indeterminate = 3

-- The text t spells the message m within the limits, with this omission and so many zero bytes of padding.
pub record Spells (L : Bounds) (m : Message) (omitted : Omitted) (padding : ℕ) (t : Text) : Type 0 where
  pub valid : IsValid m
  pub form : Form
  pub text : (IsNumber parts.Framing (framing (kind_of m.start) form)
      then IsStartText L form m.start
      then IsSection L form m.fields
      then IsTail L form m.content m.trailers omitted padding) t
