-- What completes a message, from left to right, and what it yields. Behind the bytes of a number that was begun, a text completes
-- what the number's whole text would.
use Rattle.std.specs.Prelude.{ℕ, ◌≡◌, ◌<◌, ◌⊎◌, ◌+◌, List, [], ◌∷◌, length, map, All, replicate}
use Rattle.std.specs.List.{concat}
use Rattle.bh_spec.specs.declared.Part.TheVariants as parts
use Rattle.bh_spec.specs.declared.Form.{Form}
use Rattle.bh_spec.specs.declared.Form.TheVariants.{Known, Indeterminate}
use Rattle.bh_spec.specs.declared.Kind.{Kind}
use Rattle.bh_spec.specs.declared.Kind.TheVariants.{Request, Response}
use Rattle.bh_spec.specs.declared.Omitted.TheVariants.{Nothing, Trailers, Both}
use Rattle.bh_spec.specs.Bounds.{Bounds, IsWithin}
use Rattle.bh_spec.specs.Bytes.{AreBytes}
use Rattle.bh_spec.specs.Messages.{Field, Control, Interim, IsInterim, IsFinalStatus}
use Rattle.bh_spec.specs.Texts.{Text, IsNumber, IsRun, ◌then◌, AreEach, IsString}
use Rattle.bh_spec.specs.Spelling.{IsInterimText, framing}
use Rattle.bh_model.specs.declared.field.Place.TheVariants.{Header, Trailer}
use Rattle.bh_fields.specs.Sections.{SectionOf}
use Rattle.bh_control.specs.Control.{ControlOf}
use Rattle.bh_spec.specs.Yields.{Yields}
use Rattle.bh_spec.specs.Items.{Item, Head, of_request, of_response, interim_response, head, content_byte, trailer_section, ending}

-- ---- from the end to the front

-- behind so many zeros of padding
abbrev pub PaddingRest : ℕ → List Item → Text → Type 0
PaddingRest before q t = (more : ℕ) × (q ≡ ending Nothing (before + more) ∷ []) × IsRun parts.Padding (replicate more 0) t

-- a trailer section, told by A, and padding
abbrev pub TrailersRest : (List Field → Text → Type 0) → List Item → Text → Type 0
TrailersRest A = Yields A (λ fields. trailer_section fields ∷ []) (λ fields. PaddingRest 0)

-- behind the content: nothing, or a trailer section and padding
abbrev pub AfterContent : Bounds → Form → List Item → Text → Type 0
AfterContent L form q t = ((q ≡ ending Trailers 0 ∷ []) × (t ≡ [])) ⊎ TrailersRest (SectionOf L form Trailer) q t

-- so many bytes of content
pub record ContentOf (long : ℕ) (bytes : List ℕ) (t : Text) : Type 0 where
  pub length_is : length bytes ≡ long
  pub bytes_are : AreBytes bytes
  pub spelled : IsRun parts.Content bytes t

-- Content of known length: its length and its bytes. Or chunks that aren't empty, and an integer 0.
pub record KnownContent (content : List ℕ) (t : Text) : Type 0 where
  pub bytes_are : AreBytes content
  pub spelled : IsString parts.ContentLength parts.Content content t

pub record Chunks (chunks : List (List ℕ)) (t : Text) : Type 0 where
  pub nonempty : All (λ chunk. 0 < length chunk) chunks
  pub bytes_are : All AreBytes chunks
  pub spelled : (AreEach (IsString parts.ChunkLength parts.Content) chunks then IsNumber parts.ChunkLength 0) t

-- before the length of the content, or of a chunk
abbrev pub BodyRest : Bounds → Form → List Item → Text → Type 0
BodyRest L Known = Yields KnownContent (λ content. map content_byte content) (λ content. AfterContent L Known)
BodyRest L Indeterminate = Yields Chunks (λ chunks. map content_byte (concat chunks)) (λ chunks. AfterContent L Indeterminate)

-- behind the bytes of the content, or of a chunk
abbrev pub AfterRun : Bounds → Form → List Item → Text → Type 0
AfterRun L Known = AfterContent L Known
AfterRun L Indeterminate = BodyRest L Indeterminate

-- inside content or a chunk, of which so many bytes are missing
abbrev pub ContentRest : Bounds → Form → ℕ → List Item → Text → Type 0
ContentRest L form missing = Yields (ContentOf missing) (λ bytes. map content_byte bytes) (λ bytes. AfterRun L form)

-- behind the header section: nothing, or content and what follows it
abbrev pub TailRest : Bounds → Form → List Item → Text → Type 0
TailRest L form q t = ((q ≡ ending Both 0 ∷ []) × (t ≡ [])) ⊎ BodyRest L form q t

-- the header section, told by A, behind control data or a status
abbrev pub HeaderRest : Bounds → Form → Head → (List Field → Text → Type 0) → List Item → Text → Type 0
HeaderRest L form of A = Yields A (λ fields. head of fields ∷ []) (λ fields. TailRest L form)

abbrev pub AfterStart : Bounds → Form → Head → List Item → Text → Type 0
AfterStart L form of = HeaderRest L form of (SectionOf L form Header)

-- behind so many interim responses: more of them, and the status
pub record Opening (L : Bounds) (form : Form) (before : ℕ) (found : List Interim × ℕ) (t : Text) : Type 0 where
  pub each : All IsInterim found.0
  pub final : IsFinalStatus found.1
  pub few : IsWithin L.interims (before + length found.0)
  pub spelled : (AreEach (IsInterimText L form) found.0 then IsNumber parts.Status found.1) t

abbrev pub interim_item : Interim → Item
interim_item interim = interim_response interim.status interim.fields

abbrev pub ResponseRest : Bounds → Form → ℕ → List Item → Text → Type 0
ResponseRest L form before = Yields (Opening L form before) (λ found. map interim_item found.0) (λ found. AfterStart L form
    (of_response found.1))

-- the section of an interim response of this status, told by A, behind so many others
abbrev pub InterimRest : Bounds → Form → ℕ → ℕ → (List Field → Text → Type 0) → List Item → Text → Type 0
InterimRest L form before status A = Yields A (λ fields. interim_response status fields ∷ []) (λ fields. ResponseRest L form (before + 1))

-- the control data of a request, told by A
abbrev pub RequestRest : Bounds → Form → (Control → Text → Type 0) → List Item → Text → Type 0
RequestRest L form A = Yields A (λ control. []) (λ control. AfterStart L form (of_request control))

abbrev pub AfterFraming : Bounds → Kind × Form → List Item → Text → Type 0
AfterFraming L (Request, form) = RequestRest L form (ControlOf L)
AfterFraming L (Response, form) = ResponseRest L form 0

-- a whole message
abbrev pub MessageRest : Bounds → List Item → Text → Type 0
MessageRest L = Yields {I = Kind × Form} (λ k. IsNumber parts.Framing (framing k.0 k.1)) (λ k. []) (AfterFraming L)
