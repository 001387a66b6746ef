-- A message from left to right: what may stand behind each of its parts.
use Rattle.std.specs.Prelude.{ℕ, suc, ◌≡◌, ◌<◌, ◌≤◌, ◌⊎◌, ◌+◌, ◌-◌, List, [], length, All, Option, Some, None, replicate}
use Rattle.bh_spec.specs.Bytes.{AreBytes}
use Rattle.bh_spec.specs.declared.Part.{Part}
use Rattle.bh_spec.specs.declared.Part.TheVariants as parts
use Rattle.bh_spec.specs.declared.Form.{Form}
use Rattle.bh_spec.specs.declared.Kind.{Kind}
use Rattle.bh_spec.specs.declared.Kind.TheVariants.{Request, Response}
use Rattle.bh_spec.specs.declared.Omitted.{Omitted}
use Rattle.bh_spec.specs.Bounds.{Bounds, IsWithin}
use Rattle.bh_spec.specs.Messages.{Field, Control, Interim, Message, AreHeaders, AreTrailers, IsInterim, IsFinalStatus, IsValid, kind_of}
use Rattle.bh_spec.specs.Texts.{Text, IsNumber, IsRun, ◌then◌, AreEach, IsString}
use Rattle.bh_spec.specs.Sections.{IsSection}
use Rattle.bh_spec.specs.Tails.{IsBody, IsTail}
use Rattle.bh_spec.specs.Spelling.{IsInterimText, IsStartText, framing}
use Rattle.bh_model.specs.declared.field.Place.TheVariants.{Header, Trailer}
use Rattle.bh_fields.specs.Sections.{SectionOf}
use Rattle.bh_control.specs.Control.{ControlOf}

-- the content, the trailer section and the padding, as far as they aren't left out
pub record IsRestText (L : Bounds) (form : Form) (t : Text) : Type 0 where
  pub content : List ℕ
  pub trailers : List Field
  pub omitted : Omitted
  pub padding : ℕ
  pub bytes : AreBytes content
  pub valid : AreTrailers trailers
  pub spelled : IsTail L form content trailers omitted padding t

-- behind the control data: the header section, and then the rest
abbrev pub IsAfterStart : Bounds → Form → Text → Type 0
IsAfterStart L form t = (fields : List Field) × (SectionOf L form Header fields then IsRestText L form) t

-- behind so many interim responses: more of them, the status, and what stands behind it
pub record IsResponseText (L : Bounds) (form : Form) (before : ℕ) (t : Text) : Type 0 where
  pub interims : List Interim
  pub status : ℕ
  pub each : All IsInterim interims
  pub final : IsFinalStatus status
  pub few : IsWithin L.interims (before + length interims)
  pub spelled : (AreEach (IsInterimText L form) interims then (IsNumber parts.Status status then IsAfterStart L form)) t

-- behind the framing number
abbrev pub IsAfterFraming : Bounds → Kind × Form → Text → Type 0
IsAfterFraming L (Request, form) t = (c : Control) × (ControlOf L c then IsAfterStart L form) t
IsAfterFraming L (Response, form) t = IsResponseText L form 0 t

abbrev pub IsFramed : Kind × Form → Text → Type 0
IsFramed (kind, form) t = IsNumber parts.Framing (framing kind form) t

-- how many interim responses are left behind so many
abbrev pub status_left : Option ℕ → ℕ → Option ℕ
status_left None before = None
status_left (Some most) before = Some (most - before)

-- behind a status, with so many interim responses before it: the section of an interim response and then the same again; or
-- what stands behind the status of a final response
abbrev pub AfterStatus : Bounds → Form → ℕ → ℕ → Text → Type 0
AfterStatus L form before status t = ((status < 200)
    × ((fields : List Field) × (SectionOf L form Header fields then IsResponseText L form (suc before)) t))
    ⊎ ((200 ≤ status) × IsAfterStart L form t)

-- zeros to the end
abbrev pub IsPaddingText : Text → Type 0
IsPaddingText t = (padding : ℕ) × IsRun parts.Padding (replicate padding 0) t

-- a trailer section, and then padding
abbrev pub IsEndText : Bounds → Form → Text → Type 0
IsEndText L form t = (fields : List Field) × (SectionOf L form Trailer fields then IsPaddingText) t

-- behind the content: nothing, or a trailer section and padding
abbrev pub IsAfterContent : Bounds → Form → Text → Type 0
IsAfterContent L form t = (t ≡ []) ⊎ IsEndText L form t

-- this trailer section, and so many zeros
pub record EndOf (L : Bounds) (form : Form) (fields : List Field) (padding : ℕ) (t : Text) : Type 0 where
  pub valid : AreTrailers fields
  pub spelled : (IsSection L form fields then IsRun parts.Padding (replicate padding 0)) t

-- this content, trailer section, omission and padding
pub record RestOf (L : Bounds) (form : Form) (content : List ℕ) (trailers : List Field) (omitted : Omitted) (padding : ℕ)
    (t : Text) : Type 0 where
  pub bytes : AreBytes content
  pub valid : AreTrailers trailers
  pub spelled : IsTail L form content trailers omitted padding t

-- this header section, and then this rest
pub record AfterOf (L : Bounds) (form : Form) (fields : List Field) (content : List ℕ) (trailers : List Field) (omitted : Omitted)
    (padding : ℕ) (t : Text) : Type 0 where
  pub valid : AreHeaders fields
  pub spelled : (IsSection L form fields then RestOf L form content trailers omitted padding) t

-- behind the framing number: what spells this message
pub record FramedOf (L : Bounds) (kind : Kind) (form : Form) (m : Message) (omitted : Omitted) (padding : ℕ) (t : Text) : Type 0 where
  pub valid : IsValid m
  pub kind_is : kind_of m.start ≡ kind
  pub spelled : (IsStartText L form m.start then IsSection L form m.fields then IsTail L form m.content m.trailers omitted padding) t

-- so many bytes of content
pub record ContentOf (long : ℕ) (content : List ℕ) (t : Text) : Type 0 where
  pub length_is : length content ≡ long
  pub bytes : AreBytes content
  pub spelled : IsRun parts.Content content t

-- a length, and so many bytes of content
pub record RunOf (long : Part) (content : List ℕ) (t : Text) : Type 0 where
  pub bytes : AreBytes content
  pub spelled : IsString long parts.Content content t

-- the content, as the form of the message spells it
pub record BodyOf (form : Form) (content : List ℕ) (t : Text) : Type 0 where
  pub bytes : AreBytes content
  pub spelled : IsBody form content t
