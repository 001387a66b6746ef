-- The answers of the two translators for an input, over the whole of it.
use Rattle.std.specs.Prelude.{ℕ, ◌≡◌, ◌<◌, ◌≤◌, ◌+◌, ◌⊎◌, Bool, false, List, [], ◌∷◌, length, take, codes, Option, Some, None}
use Rattle.bh_spec.specs.declared.Omitted.{Omitted}
use Rattle.bh_spec.specs.declared.Refusal.{Refusal}
use Rattle.bh_spec.specs.Bounds.{Bounds, IsWithin}
use Rattle.bh_spec.specs.Messages.{Control, Interim, request, Message}
use Rattle.bh_spec.specs.Canonical.{ControlFits, FieldsFit}
use Rattle.bh_spec.specs.Answers.{refused, IsAnswer}
use Rattle.h1_spec.specs.declared.Scheme1.{Scheme1}
use Rattle.bh_spec.specs.declared.NoForm.{NoForm}
use Rattle.bh_spec.specs.declared.H1Why.{H1Why}
use Rattle.bh_spec.specs.declared.H1Why.TheVariants as why
use Rattle.bh_spec.specs.Texts.{◌then◌, AreEach}
use Rattle.h1_spec.specs.Heads.{StartLine, request_line, status_line, Head, IsHead, EndsAt}
use Rattle.h1_spec.specs.Cleaning.{hops, clean, clean_trailers, says_host}
use Rattle.h1_spec.specs.Targets.{IsTargetOf, HasHost}
use Rattle.h1_spec.specs.Framing.{IsCoded, IsCounted, framing}
use Rattle.h1_spec.specs.Causes.{Causes, ◌when◌else◌, nothing, OfSection}
use Rattle.h1_spec.specs.BodyCauses.{Behind, OfBody}
use Rattle.h1_spec.specs.Http1.{IsInterimHead, IsHttp1}
use Rattle.h1_spec.specs.Judging.{NoneIsJudged, IsJudgedAt, place_of, IsUnjudged, end_says}

-- ---- what is said behind a body

abbrev pub IsNothing : List ℕ → Type 0
IsNothing bytes = bytes ≡ []

-- a byte follows the message
abbrev pub OfExtra : List ℕ → Causes
OfExtra rest = why.Extra when (IsNothing rest → ⊥) else nothing

-- the trailer section, cleaned by the hops of the header section, doesn't fit; or a byte follows
abbrev pub OfEnd : Bounds → List (List ℕ) → Behind
OfEnd L named trailers rest = why.TrailerLimit when (FieldsFit L (clean_trailers named trailers) → ⊥) else OfExtra rest

-- ---- heads

-- behind the head of an informational response stands a response's
abbrev pub IsNextStart : List Interim → StartLine → Type 0
IsNextStart [] start = Unit {0}
IsNextStart (interim ∷ more) start = (status : ℕ) × (start ≡ status_line status)

abbrev pub OfFraming : Bounds → Bool → Head → List ℕ → Causes
OfFraming L to_head head rest = why.Coding when (IsCoded head.fields → ⊥)
    else why.Length when (IsCounted head.fields → ⊥)
    else OfBody L (framing to_head head) (OfEnd L (hops head.fields)) rest

abbrev pub OfRequest : Bounds → Bool → Control → Head → List ℕ → Causes
OfRequest L to_head control head rest = why.Host when (HasHost control head.fields → ⊥)
    else why.HeadLimit when (ControlFits L control × FieldsFit L (clean (hops head.fields) (says_host (request control)) head.fields) → ⊥)
    else OfFraming L to_head head rest

-- a head, behind those of informational responses and before the rest of the input
abbrev pub OfStart : Bounds → Scheme1 → Bool → List Interim → Head → List ℕ → StartLine → Causes
OfStart L scheme to_head interims head rest (request_line method target) = why.Connect when (method ≡ codes "CONNECT")
    else why.Target when ((control : Control) → IsTargetOf scheme method target control → ⊥)
    else λ cause. (control : Control) × IsTargetOf scheme method target control × OfRequest L to_head control head rest cause
OfStart L scheme to_head interims head rest (status_line status) = why.Switching when (status ≡ 101)
    else why.Interims when ((status ≤ 199) × (IsWithin L.interims (length interims + 1) → ⊥))
    else why.HeadLimit when (FieldsFit L (clean (hops head.fields) false head.fields) → ⊥)
    else λ cause. (200 ≤ status) × OfFraming L to_head head rest cause

-- the bytes of a head up to its end, before the rest of the input
abbrev pub OfWholeHead : Bounds → Scheme1 → Bool → List Interim → List ℕ → List ℕ → Causes
OfWholeHead L scheme to_head interims section rest =
    why.HeadForm when ((head : Head) → IsHead head section → IsNextStart interims head.start → ⊥)
    else λ cause. (head : Head) × IsHead head section × IsNextStart interims head.start
    × OfStart L scheme to_head interims head rest head.start cause

-- a head whose end is looked for
abbrev pub OfHead : Bounds → Scheme1 → Bool → List Interim → List ℕ → Causes
OfHead L scheme to_head interims bytes = OfSection (EndsAt bytes) L.section bytes why.HeadLimit (OfWholeHead L scheme to_head interims)

-- The bytes are no message, for this cause: behind the heads of some informational responses.
pub record IsCause (L : Bounds) (scheme : Scheme1) (to_head : Bool) (bytes : List ℕ) (cause : H1Why) : Type 0 where
  pub interims : List Interim
  pub few : IsWithin L.interims (length interims)
  pub text : (AreEach (IsInterimHead L) interims then λ rest. OfHead L scheme to_head interims rest cause) bytes

-- ---- answers

pub data FromAnswer : Type 0 where
  read : Message → FromAnswer
  broken : H1Why → FromAnswer

-- of an input that is longer than the limit, the first bytes: `Ended` isn't a cause of theirs
abbrev pub OfFirst : Bounds → Scheme1 → Bool → List ℕ → Causes
OfFirst L scheme to_head first cause = ((cause ≡ why.Ended → ⊥) × IsCause L scheme to_head first cause)
    ⊎ ((cause ≡ why.TooLong) × (((m : Message) × IsHttp1 L scheme to_head m first) ⊎ IsCause L scheme to_head first why.Ended))

abbrev pub IsLonger : Option ℕ → ℕ → ℕ → Type 0
IsLonger limit most n = (limit ≡ Some most) × (most < n)

-- The input is one message, or why it isn't.
abbrev pub IsFromAnswer : Bounds → Scheme1 → Bool → List ℕ → FromAnswer → Type 0
IsFromAnswer L scheme to_head bytes (read m) = IsWithin L.input (length bytes) × IsHttp1 L scheme to_head m bytes
IsFromAnswer L scheme to_head bytes (broken cause) = (IsWithin L.input (length bytes) × IsCause L scheme to_head bytes cause)
    ⊎ ((most : ℕ) × IsLonger L.input most (length bytes) × OfFirst L scheme to_head (take most bytes) cause)

pub data IntoAnswer : Type 0 where
  -- the message, what the input leaves out, and how many zeros of padding it has
  formed : Message → Omitted → ℕ → IntoAnswer
  dead : Refusal → IntoAnswer
  formless : NoForm → IntoAnswer

-- The input is a message that has a text; or a byte of it is refused, or it ends too soon or goes on too long, and none before that is
-- judged; or a byte is judged, or the end is.
abbrev pub IsIntoAnswer : Bounds → Bool → List ℕ → IntoAnswer → Type 0
IsIntoAnswer L to_head bytes (formed m omitted padding) = IsUnjudged L to_head bytes m omitted padding × (end_says to_head m omitted ≡ None)
IsIntoAnswer L to_head bytes (dead refusal) = IsAnswer L bytes (refused refusal) × NoneIsJudged L to_head bytes (place_of refusal)
IsIntoAnswer L to_head bytes (formless form) = ((k : ℕ) × IsJudgedAt L to_head bytes k form)
    ⊎ ((m : Message) × (omitted : Omitted) × (padding : ℕ) × IsUnjudged L to_head bytes m omitted padding
    × (end_says to_head m omitted ≡ Some form))
