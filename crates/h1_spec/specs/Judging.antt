-- The answer of the translator to HTTP/1.1 for an input that is read byte by byte.
use Rattle.std.specs.Prelude.{ℕ, ◌≡◌, ◌<◌, ◌+◌, Bool, List, [], ◌∷◌, ◌++◌, length, take, All, Option, Some, None}
use Rattle.bh_spec.specs.declared.Form.{Form}
use Rattle.bh_spec.specs.declared.Kind.TheVariants.{Response}
use Rattle.bh_spec.specs.declared.Omitted.{Omitted}
use Rattle.bh_spec.specs.declared.Omitted.TheVariants.{Nothing, Trailers, Both}
use Rattle.bh_spec.specs.declared.Part.TheVariants as parts
use Rattle.bh_spec.specs.declared.Refusal.{Refusal}
use Rattle.bh_spec.specs.declared.Refusal.TheVariants.{Dead, Limit, Ended, TooLong}
use Rattle.bh_spec.specs.Bounds.{Bounds, IsWithin}
use Rattle.bh_spec.specs.Bytes.{AreBytes}
use Rattle.bh_spec.specs.Messages.{Field, Interim, Start, kind_of, Message, AreHeaders, AreTrailers, IsInterim, IsStart}
use Rattle.bh_spec.specs.Texts.{Text, content_in, IsNumber, ◌then◌, AreEach}
use Rattle.bh_spec.specs.Pieces.{IsText}
use Rattle.bh_spec.specs.Sections.{IsSection}
use Rattle.bh_spec.specs.Tails.{IsBody}
use Rattle.bh_spec.specs.Spelling.{IsInterimText, IsStartText, framing}
use Rattle.bh_spec.specs.Answers.{whole, IsAnswer}
use Rattle.bh_spec.specs.declared.NoForm.{NoForm}
use Rattle.h1_spec.specs.Moments.{Moment, interim_ended, head_ended, content_read, trailers_ended, input_ended, form_at}

-- ---- which bytes end at a moment

-- A text of a message up to the end of its header section.
pub record IsOpening (L : Bounds) (form : Form) (start : Start) (fields : List Field) (t : Text) : Type 0 where
  pub start_is : IsStart start
  pub fields_are : AreHeaders fields
  pub spelled : (IsNumber parts.Framing (framing (kind_of start) form) then IsStartText L form start then IsSection L form fields) t

-- A text of a response up to the end of the section of this interim response, the last so far.
pub record IsInterims (L : Bounds) (interim : Interim) (t : Text) : Type 0 where
  pub form : Form
  pub before : List Interim
  pub each : All IsInterim (before ++ interim ∷ [])
  pub few : IsWithin L.interims (length (before ++ interim ∷ []))
  pub spelled : (IsNumber parts.Framing (framing Response form) then AreEach (IsInterimText L form) (before ++ interim ∷ [])) t

-- Content goes on behind the text, whose last byte is its n-th.
pub record IsContent (form : Form) (n : ℕ) (t : Text) : Type 0 where
  pub front : Text
  pub byte : ℕ
  pub ends : t ≡ front ++ (parts.Content, byte) ∷ []
  pub counts : content_in t ≡ n
  pub content : List ℕ
  pub bytes_are : AreBytes content
  pub after : Text
  pub body : IsBody form content (t ++ after)

-- The content, and the trailer section within the limits.
pub record IsClosing (L : Bounds) (form : Form) (n : ℕ) (trailers : List Field) (t : Text) : Type 0 where
  pub content : List ℕ
  pub counts : length content ≡ n
  pub bytes_are : AreBytes content
  pub trailers_are : AreTrailers trailers
  pub spelled : (IsBody form content then IsSection L form trailers) t

-- The moment comes with the last of the bytes.
abbrev pub ComesAt : Bounds → List ℕ → Moment → Type 0
ComesAt L bytes (interim_ended interim) = IsText (IsInterims L interim) bytes
ComesAt L bytes (head_ended start fields) = (form : Form) × IsText (IsOpening L form start fields) bytes
ComesAt L bytes (content_read start fields n) = (form : Form) × IsText (IsOpening L form start fields then IsContent form n) bytes
ComesAt L bytes (trailers_ended start fields n trailers) = (form : Form)
    × IsText (IsOpening L form start fields then IsClosing L form n trailers) bytes
ComesAt L bytes (input_ended start fields n) = ⊥

-- ---- the answer

-- A moment comes with the last of the bytes, and a rule holds there.
abbrev pub IsJudged : Bounds → Bool → List ℕ → NoForm → Type 0
IsJudged L to_head bytes form = (moment : Moment) × ComesAt L bytes moment × (form_at to_head moment ≡ Some form)

-- none of so many bytes is judged, within the limit of the input
abbrev pub NoneIsJudged : Bounds → Bool → List ℕ → ℕ → Type 0
NoneIsJudged L to_head bytes most = (k : ℕ) (form : NoForm) → k < most → k < length bytes → IsWithin L.input (k + 1)
    → IsJudged L to_head (take (k + 1) bytes) form → ⊥

-- The byte numbered k is the first that is judged.
pub record IsJudgedAt (L : Bounds) (to_head : Bool) (bytes : List ℕ) (k : ℕ) (form : NoForm) : Type 0 where
  pub inside : k < length bytes
  pub seen : IsWithin L.input (k + 1)
  pub judged : IsJudged L to_head (take (k + 1) bytes) form
  pub first : NoneIsJudged L to_head bytes k

-- where a refusal stands
abbrev pub place_of : Refusal → ℕ
place_of (Dead at part) = at
place_of (Limit at part) = at
place_of (Ended at part) = at
place_of (TooLong at) = at

-- The input is a message, none of its bytes is judged, and its end says so much.
pub record IsUnjudged (L : Bounds) (to_head : Bool) (bytes : List ℕ) (m : Message) (omitted : Omitted) (padding : ℕ) : Type 0 where
  pub message : IsAnswer L bytes (whole m omitted padding)
  pub none : NoneIsJudged L to_head bytes (length bytes)

-- what the end of the input says of a message
abbrev pub end_says : Bool → Message → Omitted → Option NoForm
end_says to_head m Nothing = None
end_says to_head m Trailers = form_at to_head (input_ended m.start m.fields (length m.content))
end_says to_head m Both = form_at to_head (input_ended m.start m.fields (length m.content))
