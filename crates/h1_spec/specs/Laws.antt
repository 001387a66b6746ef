-- The laws that join HTTP/1.1 and Binary HTTP.
use Rattle.std.specs.Prelude.{ℕ, ◌≡◌, Bool, List, [], ◌++◌, length, None, ◌<◌, ◌+◌, take, flat_map, Some}
use Rattle.h1_spec.specs.Judging.{ComesAt, IsJudgedAt}
use Rattle.h1_spec.specs.Moments.{Moment, cases_at, first_of, moments}
use Rattle.bh_spec.specs.declared.NoForm.{NoForm}
use Rattle.bh_spec.specs.declared.H1Why.{H1Why}
use Rattle.bh_spec.specs.declared.H1Why.TheVariants as why
use Rattle.bh_spec.specs.Answers.{whole, IsAnswer}
use Rattle.bh_spec.specs.Viable.{IsViable}
use Rattle.bh_spec.specs.declared.Refusal.TheVariants.{Dead, Limit}
use Rattle.bh_spec.specs.declared.Part.{Part}
use Rattle.bh_spec.specs.declared.Omitted.{Omitted}
use Rattle.bh_spec.specs.declared.Omitted.TheVariants.{Nothing, Trailers, Both}
use Rattle.bh_spec.specs.Bounds.{Bounds, IsWithin, no_bounds}
use Rattle.bh_spec.specs.Bytes.{AreBytes}
use Rattle.bh_spec.specs.Messages.{Field, Control, Start, request, response, Message, IsValid}
use Rattle.bh_spec.specs.Canonical.{canon, Fits, integers}
use Rattle.h1_spec.specs.declared.Framing1.{Framing1}
use Rattle.h1_spec.specs.declared.Scheme1.{Scheme1}
use Rattle.h1_spec.specs.Heads.{Head, IsHead, EndsAt}
use Rattle.h1_spec.specs.Cleaning.{hops, clean, clean_trailers, clean_message}
use Rattle.h1_spec.specs.Targets.{scheme_of, IsTargetOf}
use Rattle.h1_spec.specs.Bodies.{IsBody}
use Rattle.h1_spec.specs.Http1.{IsHttp1}
use Rattle.h1_spec.specs.Http1Text.{text_of, http1, no_form, KeepsLimits}
use Rattle.bh_spec.specs.Texts.{Text, bytes_of, content_in}
use Rattle.h1_spec.specs.Marks.{IsMarked, IsSomeMarked, marked_text}
use Rattle.h1_spec.specs.Translation.{FromAnswer, read, broken, IsFromAnswer, formed, IsIntoAnswer, IntoAnswer, dead, formless}

-- Bytes are one message at most, whatever the limits.
abbrev pub OneMessage : Type 0
OneMessage = (K L : Bounds) (scheme : Scheme1) (to_head : Bool) (m n : Message) (bytes : List ℕ)
    → IsHttp1 K scheme to_head m bytes → IsHttp1 L scheme to_head n bytes → m ≡ n

-- What is within limits is a message without.
abbrev pub WithoutLimits : Type 0
WithoutLimits = (L : Bounds) (scheme : Scheme1) (to_head : Bool) (m : Message) (bytes : List ℕ)
    → IsHttp1 L scheme to_head m bytes → IsHttp1 no_bounds scheme to_head m bytes

-- An HTTP/1.1 message is a valid message.
abbrev pub ReadIsValid : Type 0
ReadIsValid = (L : Bounds) (scheme : Scheme1) (to_head : Bool) (m : Message) (bytes : List ℕ) → IsHttp1 L scheme to_head m bytes → IsValid m

-- A target says one thing, with one method and one scheme of the caller.
abbrev pub OneTarget : Type 0
OneTarget = (scheme : Scheme1) (method target : List ℕ) (c d : Control) → IsTargetOf scheme method target c
    → IsTargetOf scheme method target d → c ≡ d

-- Bytes are a body with one content and one trailer section, whatever the limits.
abbrev pub OneBody : Type 0
OneBody = (K L : Bounds) (framing : Framing1) (x y : List ℕ) (fs gs : List Field) (bytes : List ℕ)
    → IsBody K framing x fs bytes → IsBody L framing y gs bytes → (x ≡ y) × (fs ≡ gs)

-- Bytes begin with one head at most, and it ends at the first empty line.
abbrev pub OneHead : Type 0
OneHead = (h k : Head) (x y rest more : List ℕ) → IsHead h x → IsHead k y → x ++ rest ≡ y ++ more → (h ≡ k) × (rest ≡ more)

abbrev pub HeadEnds : Type 0
HeadEnds = (h : Head) (x rest : List ℕ) → IsHead h x → EndsAt (x ++ rest) (length x)

-- What is clean stays as it is: a header section behind its own hops, a trailer section behind those of its header section, and a message.
abbrev pub CleanTwice : Type 0
CleanTwice = (drop_host : Bool) (fields : List Field)
    → let once = clean (hops fields) drop_host fields in clean (hops once) drop_host once ≡ once

abbrev pub CleanTrailersTwice : Type 0
CleanTrailersTwice = (named : List (List ℕ)) (trailers : List Field)
    → let once = clean_trailers named trailers in clean_trailers named once ≡ once

abbrev pub CleanMessageTwice : Type 0
CleanMessageTwice = (m : Message) → clean_message (clean_message m) ≡ clean_message m

-- the scheme is the message's own; any will do for a response, and for a request whose target says it with its authority
abbrev pub IsSchemeOf : Start → Scheme1 → Type 0
IsSchemeOf (request control) scheme = control.authority ≡ [] → control.scheme ≡ scheme_of scheme
IsSchemeOf (response interims status) scheme = Unit {0}

-- There: the text of a message is the cleaned message. It is no other, since bytes are one message at most.
abbrev pub There : Type 0
There = (scheme : Scheme1) (to_head : Bool) (m : Message) → IsValid m → IsSchemeOf m.start scheme → no_form to_head m ≡ None
    → IsHttp1 no_bounds scheme to_head (clean_message m) (http1 to_head m)

-- Within the limits, where the text keeps them.
abbrev pub ThereWithin : Type 0
ThereWithin = (L : Bounds) (scheme : Scheme1) (to_head : Bool) (m : Message) → IsValid m → IsSchemeOf m.start scheme
    → no_form to_head m ≡ None
    → KeepsLimits L to_head (clean_message m) → IsHttp1 L scheme to_head (clean_message m) (http1 to_head m)

-- And back: what is read is clean, and has a text.
abbrev pub AndBack : Type 0
AndBack = (L : Bounds) (scheme : Scheme1) (to_head : Bool) (m : Message) (bytes : List ℕ) → IsHttp1 L scheme to_head m bytes
    → (clean_message m ≡ m) × (no_form to_head m ≡ None)

-- So what is read from a message's text, within any limits, is the cleaned message.
abbrev pub ThereRead : Type 0
ThereRead = (L : Bounds) (scheme : Scheme1) (to_head : Bool) (m n : Message) → IsValid m → IsSchemeOf m.start scheme
    → no_form to_head m ≡ None
    → IsHttp1 L scheme to_head n (http1 to_head m) → n ≡ clean_message m

-- And what is read is read again from its own text, with the scheme with which it was read.
abbrev pub ReadAgain : Type 0
ReadAgain = (L : Bounds) (scheme : Scheme1) (to_head : Bool) (m : Message) (bytes : List ℕ) → IsHttp1 L scheme to_head m bytes
    → IsHttp1 no_bounds scheme to_head m (http1 to_head m)

-- In the words of the two translators, for an input of each. Where the second reads what the first wrote, it reads the cleaned message.
abbrev pub IntoThenFrom : Type 0
IntoThenFrom = (K L : Bounds) (scheme : Scheme1) (to_head : Bool) (bytes : List ℕ) (m n : Message) (omitted : Omitted) (padding : ℕ)
    → IsIntoAnswer K to_head bytes (formed m omitted padding) → IsSchemeOf m.start scheme
    → IsFromAnswer L scheme to_head (http1 to_head m) (read n) → n ≡ clean_message m

-- It does so where the text keeps its limits.
abbrev pub IntoThenRead : Type 0
IntoThenRead = (K L : Bounds) (scheme : Scheme1) (to_head : Bool) (bytes : List ℕ) (m : Message) (omitted : Omitted) (padding : ℕ)
    → IsIntoAnswer K to_head bytes (formed m omitted padding) → IsSchemeOf m.start scheme
    → KeepsLimits L to_head (clean_message m) → IsWithin L.input (length (http1 to_head m))
    → IsFromAnswer L scheme to_head (http1 to_head m) (read (clean_message m))

-- And the canonical text of what was read has an HTTP/1.1 text, where it is within the limit of an input and its lengths can be written.
abbrev pub FromThenInto : Type 0
FromThenInto = (L : Bounds) (scheme : Scheme1) (to_head : Bool) (bytes : List ℕ) (m : Message)
    → IsFromAnswer L scheme to_head bytes (read m)
    → Fits integers m → IsWithin L.input (length (canon m)) → IsIntoAnswer L to_head (canon m) (formed m Nothing 0)

-- The third translation gives what the first gave, where the text keeps the limits.
abbrev pub FromIntoFrom : Type 0
FromIntoFrom = (L : Bounds) (scheme : Scheme1) (to_head : Bool) (bytes : List ℕ) (m : Message)
    → IsFromAnswer L scheme to_head bytes (read m)
    → KeepsLimits L to_head m → IsWithin L.input (length (http1 to_head m)) → IsFromAnswer L scheme to_head (http1 to_head m) (read m)

-- A translator has one right answer.
abbrev pub OneFrom : Type 0
OneFrom = (L : Bounds) (scheme : Scheme1) (to_head : Bool) (bytes : List ℕ) (a b : FromAnswer)
    → IsFromAnswer L scheme to_head bytes a → IsFromAnswer L scheme to_head bytes b → a ≡ b

-- And none is without one: that no answer is right for some bytes leads to a contradiction.
abbrev pub SomeFrom : Type 0
SomeFrom = (L : Bounds) (scheme : Scheme1) (to_head : Bool) (bytes : List ℕ) → AreBytes bytes
    → ((answer : FromAnswer) → IsFromAnswer L scheme to_head bytes answer → ⊥) → ⊥

-- What breaks an input breaks every longer one: a refusal depends on no byte behind the one that decides it. `Ended` alone needs the end.
abbrev pub StaysBroken : Type 0
StaysBroken = (L : Bounds) (scheme : Scheme1) (to_head : Bool) (bytes more : List ℕ) (cause : H1Why) → (cause ≡ why.Ended → ⊥)
    → IsFromAnswer L scheme to_head bytes (broken cause) → IsFromAnswer L scheme to_head (bytes ++ more) (broken cause)

-- ---- the translator to HTTP/1.1, byte by byte

-- what is left out is empty
abbrev pub LeavesOut : Message → Omitted → Type 0
LeavesOut m Nothing = Unit {0}
LeavesOut m Trailers = m.trailers ≡ []
LeavesOut m Both = (m.content ≡ []) × (m.trailers ≡ [])

-- The first rule that holds at some moment of a message, in the order of its moments, is the first that holds of the whole message.
abbrev pub AgreesWithForms : Type 0
AgreesWithForms = (to_head : Bool) (m : Message) (omitted : Omitted) → LeavesOut m omitted
    → first_of (flat_map (cases_at to_head) (moments m omitted)) ≡ no_form to_head m

-- At most one moment comes with a byte, whatever the limits.
abbrev pub OneMoment : Type 0
OneMoment = (K L : Bounds) (bytes : List ℕ) (a b : Moment) → ComesAt K bytes a → ComesAt L bytes b → a ≡ b

-- What is judged is viable.
abbrev pub JudgedIsViable : Type 0
JudgedIsViable = (L : Bounds) (bytes : List ℕ) (moment : Moment) → ComesAt L bytes moment → IsViable L bytes

-- The translator has one right answer.
abbrev pub OneInto : Type 0
OneInto = (L : Bounds) (to_head : Bool) (bytes : List ℕ) (a b : IntoAnswer) → IsIntoAnswer L to_head bytes a
    → IsIntoAnswer L to_head bytes b → a ≡ b

-- And no input is without an answer, as above.
abbrev pub SomeInto : Type 0
SomeInto = (L : Bounds) (to_head : Bool) (bytes : List ℕ) → ((answer : IntoAnswer) → IsIntoAnswer L to_head bytes answer → ⊥) → ⊥

-- What a byte decides depends on no byte behind it: where other bytes agree up to that one, it is decided there too.
pub record DecidedByAByte (L : Bounds) (to_head : Bool) (bytes others : List ℕ) (at : ℕ) : Type 0 where
  pub judged : (form : NoForm) → IsJudgedAt L to_head bytes at form → IsJudgedAt L to_head others at form
  pub dead_there : (part : Part) → IsIntoAnswer L to_head bytes (dead (Dead at part)) → IsIntoAnswer L to_head others (dead (Dead at part))
  pub limited : (part : Part) → IsIntoAnswer L to_head bytes (dead (Limit at part)) → IsIntoAnswer L to_head others (dead (Limit at part))

abbrev pub NoLaterByte : Type 0
NoLaterByte = (L : Bounds) (to_head : Bool) (bytes others : List ℕ) (at : ℕ) → at < length others
    → take (at + 1) others ≡ take (at + 1) bytes
    → DecidedByAByte L to_head bytes others at

-- A message that has a text, in whatever way its bytes are spelled, is judged at none of them, nor at the end.
abbrev pub FormedWhereFree : Type 0
FormedWhereFree = (L : Bounds) (to_head : Bool) (bytes : List ℕ) (m : Message) (omitted : Omitted) (padding : ℕ)
    → IsAnswer L bytes (whole m omitted padding)
    → no_form to_head m ≡ None → IsIntoAnswer L to_head bytes (formed m omitted padding)

-- And a message none of whose bytes is judged, nor its end, has a text. So the two readings, byte by byte and of the whole message, give
-- one answer where there is a text.
abbrev pub FreeWhereFormed : Type 0
FreeWhereFormed = (L : Bounds) (to_head : Bool) (bytes : List ℕ) (m : Message) (omitted : Omitted) (padding : ℕ)
    → IsIntoAnswer L to_head bytes (formed m omitted padding) → no_form to_head m ≡ None

-- Where a message has none, the form that is judged, at a byte or at the end, is the first that holds of the message.
abbrev pub FormlessIsTheForm : Type 0
FormlessIsTheForm = (L : Bounds) (to_head : Bool) (bytes : List ℕ) (m : Message) (omitted : Omitted) (padding : ℕ) (form : NoForm)
    → IsAnswer L bytes (whole m omitted padding)
    → IsIntoAnswer L to_head bytes (formless form) → no_form to_head m ≡ Some form

-- ---- content

-- The marked bytes of a text are the content of its message.
abbrev pub MarksTheContent : Type 0
MarksTheContent = (L : Bounds) (to_head : Bool) (m : Message) (t : Text) → IsMarked L to_head m t → content_in t ≡ length m.content

-- Where two texts begin with the same bytes, these have the same marks, whatever the messages and the limits.
abbrev pub OneMarking : Type 0
OneMarking = (K L : Bounds) (to_head : Bool) (t u : Text) → IsSomeMarked K to_head t → IsSomeMarked L to_head u
    → (front more others : List ℕ) → bytes_of t ≡ front ++ more → bytes_of u ≡ front ++ others
    → take (length front) t ≡ take (length front) u

-- The text of a message with its marks is its text.
abbrev pub MarksTheText : Type 0
MarksTheText = (to_head : Bool) (m : Message) → bytes_of (marked_text to_head m) ≡ text_of to_head m

-- And its marks are those of an HTTP/1.1 text.
abbrev pub ThereMarked : Type 0
ThereMarked = (scheme : Scheme1) (to_head : Bool) (m : Message) → IsValid m → IsSchemeOf m.start scheme → no_form to_head m ≡ None
    → IsMarked no_bounds to_head (clean_message m) (marked_text to_head (clean_message m))
