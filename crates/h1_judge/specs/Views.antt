-- The decoder that judges, as the loop over a port sees it. It hands out the items of the cleaned message.
use Rattle.std.specs.Prelude.{ℕ, ◌≡◌, ◌⊎◌, Bool, false, Option, Some, None, List, [], ◌∷◌, ◌++◌, ◌+◌, ◌<◌, length}
use Rattle.bh_spec.specs.declared.Omitted.{Omitted}
use Rattle.bh_spec.specs.declared.Omitted.TheVariants.{Nothing}
use Rattle.bh_spec.specs.declared.NoForm.{NoForm}
use Rattle.bh_spec.specs.declared.Summary.{Summary}
use Rattle.bh_spec.specs.Bounds.{Bounds}
use Rattle.bh_spec.specs.Messages.{Field, Interim, AreHeaders}
use Rattle.bh_spec.specs.Canonical.{FieldsFit}
use Rattle.bh_spec.specs.Texts.{Text}
use Rattle.bh_spec.specs.Items.{Item, interim_response, head, content_byte, trailer_section, ending, Head}
use Rattle.bh_push.specs.Decoders.{At}
use Rattle.bh_push.specs.Standing.{IsRight, IsPrompt}
use Rattle.bh_stream.specs.Decoding.{content_items}
use Rattle.bh_stream.specs.declared.traits.Event.{Event}
use Rattle.bh_stream.specs.declared.traits.Event.TheVariants as events
use Rattle.bh_reading.specs.Readings as binary
use Rattle.bh_reading.specs.Readings.{Counted}
use Rattle.bh_reading.specs.Coming.{InterimComes, StartComes, TrailersCome}
use Rattle.h1_spec.specs.Http1Text.{has_bad_value}
use Rattle.h1_spec.specs.Moments.{announced, of_end, first_of}
use Rattle.h1_spec.specs.Http1.{start_of}
use Rattle.h1_judge.specs.declared.judged.IntoWhy.{IntoWhy}
use Rattle.h1_judge.specs.declared.judged.IntoWhy.TheVariants as why
use Rattle.h1_judge.specs.Courses.{own_fields, cleaned_items, Course, start_course, behind, item_form, AreFree}

-- the decoder of the binary message, whether a response answers HEAD, what is known for the judgement, and the cleaned lines of the
-- section that was handed out last
pub record JudgedView : Type 0 where
  pub reading : Counted
  pub to_head : Bool
  pub course : Course
  pub cleaned : List Field

-- what completes the message, whose items are cleaned
abbrev pub rest : JudgedView → List Item → Text → Type 0
rest v q t = (raw : List Item) × (q ≡ cleaned_items v.course.named raw) × binary.rest v.reading raw t

abbrev pub limits : JudgedView → Bounds
limits v = binary.limits v.reading

abbrev pub room : JudgedView → ℕ
room v = binary.room v.reading

-- no event stands there that wasn't handed out
abbrev pub Prompt : Counted → Type 0
Prompt c = IsPrompt c.held.decoder.limits c.held.decoder.at

-- the place right behind an item; no place is behind an ending
abbrev pub StandsBehind : Item → At → Type 0
StandsBehind (interim_response status fields) at = IsRight (interim_response status fields ∷ []) at
StandsBehind (head of fields) at = IsRight (head of fields ∷ []) at
StandsBehind (content_byte x) at = IsRight (content_byte x ∷ []) at
StandsBehind (trailer_section fields) at = IsRight (trailer_section fields ∷ []) at
StandsBehind (ending omitted padding) at = ⊥

-- The first of the bytes led to the items, and right behind the last of them.
pub record Landed (v : Counted) (bytes : List ℕ) (items : List Item) : Type 0 where
  pub front : List Item
  pub last : Item
  pub items_are : items ≡ front ++ last ∷ []
  pub seen : List ℕ
  pub quiet : List ℕ
  pub split : bytes ≡ seen ++ quiet
  pub state : Counted
  pub moved : binary.Moved v seen items state
  pub right : StandsBehind last state.held.decoder.at

-- The bytes lead the decoder of the binary message to items for which no rule holds, and these are cleaned.
pub record Moved (v : JudgedView) (bytes : List ℕ) (items : List Item) (w : JudgedView) : Type 0 where
  pub raw : List Item
  pub items_are : items ≡ cleaned_items v.course.named raw
  pub moved : binary.Moved v.reading bytes raw w.reading
  pub to_head : w.to_head ≡ v.to_head
  pub course : w.course ≡ behind v.to_head v.course raw
  pub free : AreFree v.to_head v.course raw
  pub prompt : Prompt w.reading
  pub landed : (raw ≡ []) ⊎ Landed v.reading bytes raw

-- the item is one of a valid message within the limits
abbrev pub IsFitting : Bounds → Item → Type 0
IsFitting L (interim_response status fields) = InterimComes L status fields
IsFitting L (head of fields) = StartComes L of × AreHeaders fields × FieldsFit L fields
IsFitting L (content_byte x) = Unit {0}
IsFitting L (trailer_section fields) = TrailersCome L fields
IsFitting L (ending omitted padding) = Unit {0}

abbrev pub AreFitting : Bounds → List Item → Type 0
AreFitting L [] = Unit {0}
AreFitting L (item ∷ q) = IsFitting L item × AreFitting L q

-- Nothing was refused yet.
pub record IsReady (v : JudgedView) : Type 0 where
  pub reading : binary.IsReady v.reading
  pub prompt : Prompt v.reading
  pub fitting : (raw : List Item) (t : Text) → binary.rest v.reading raw t → AreFitting (limits v) raw

-- ---- the items of events

-- The section that was read last is that of the item, which is valid and just ended; and it is cleaned.
pub record IsSection (v : JudgedView) (raw : List Field) (item : Item) : Type 0 where
  pub lines : v.reading.held.lines ≡ Some raw
  pub fitting : IsFitting (limits v) item
  pub right : IsRight (item ∷ []) v.reading.held.decoder.at
  pub cleaned : v.cleaned ≡ own_fields v.course.named item

pub record IsInterim (v : JudgedView) (status : ℕ) (raw : List Field) : Type 0 where
  pub section : IsSection v raw (interim_response status raw)
  pub free : item_form v.course (interim_response status raw) ≡ None

pub record IsHead (v : JudgedView) (of : Head) (raw : List Field) : Type 0 where
  pub section : IsSection v raw (head of raw)
  pub free : item_form v.course (head of raw) ≡ None
  pub head_is : v.reading.held.head ≡ Some of
  pub framing : v.course.framing ≡ announced v.to_head (start_of of) raw

pub record IsTrailers (v : JudgedView) (raw : List Field) : Type 0 where
  pub section : IsSection v raw (trailer_section raw)
  pub free : has_bad_value v.cleaned ≡ false

-- the cleaned item of an event, as the decoder shows it
abbrev pub shows : JudgedView → Event → Item → Type 0
shows v (events.Interim status) item = (raw : List Field) × (item ≡ interim_response status v.cleaned) × IsInterim v status raw
shows v events.Head item = (of : Head) × (raw : List Field) × (item ≡ head of v.cleaned) × IsHead v of raw
shows v events.Trailers item = (raw : List Field) × (item ≡ trailer_section v.cleaned) × IsTrailers v raw

-- ---- refusals

-- Where the last item is a byte of content, each of the bytes was one.
abbrev pub AreContent : List ℕ → List Item → Item → Type 0
AreContent bytes raw (interim_response status fields) = Unit {0}
AreContent bytes raw (head of fields) = Unit {0}
AreContent bytes raw (content_byte x) = length bytes ≡ content_items raw + 1
AreContent bytes raw (trailer_section fields) = Unit {0}
AreContent bytes raw (ending omitted padding) = Unit {0}

-- With the last of the bytes an item comes for which a rule holds, and none does for those before it. This is the first rule that does.
pub record IsJudged (v : JudgedView) (bytes : List ℕ) (form : NoForm) : Type 0 where
  pub some : 0 < length bytes
  pub raw : List Item
  pub last : Item
  pub state : Counted
  pub moved : binary.Moved v.reading bytes (raw ++ last ∷ []) state
  pub free : AreFree v.to_head v.course raw
  pub judged : item_form (behind v.to_head v.course raw) last ≡ Some form
  pub full : AreContent bytes raw last
  pub right : IsRight (last ∷ []) state.held.decoder.at
  pub prompt : Prompt state

-- a byte is none of a message; or with the last of the bytes the message is judged
abbrev pub RefusesHere : JudgedView → List ℕ → IntoWhy → Type 0
RefusesHere v bytes (why.Binary refusal) = binary.refuses v.reading bytes refusal
RefusesHere v bytes (why.Form form) = IsJudged v bytes form

-- Some bytes of the piece were taken before those in which one is refused.
pub record IsRefused (v : JudgedView) (piece : List ℕ) (why : IntoWhy) : Type 0 where
  pub before : List ℕ
  pub bytes : List ℕ
  pub after : List ℕ
  pub split : piece ≡ before ++ (bytes ++ after)
  pub state : JudgedView
  pub moved : Moved v before [] state
  pub refused : RefusesHere state bytes why

-- ---- the end

-- The message may end here, without a trailer section, and a rule holds for the end: the content is too short.
pub record IsEndJudged (v : JudgedView) (form : NoForm) : Type 0 where
  pub omitted : Omitted
  pub padding : ℕ
  pub whole : binary.rest v.reading (ending omitted padding ∷ []) []
  pub without : omitted ≡ Nothing → ⊥
  pub judged : first_of (of_end v.course.framing v.course.counted) ≡ Some form

abbrev pub misses : JudgedView → IntoWhy → Type 0
misses v (why.Binary refusal) = binary.misses v.reading refusal
misses v (why.Form form) = IsEndJudged v form

-- the summary of the message that was read, for whose end no rule holds
pub record Tells (v : JudgedView) (omitted : Omitted) (padding : ℕ) (s : Summary) : Type 0 where
  pub summary : binary.tells v.reading omitted padding s
  pub free : (omitted ≡ Nothing → ⊥) → first_of (of_end v.course.framing v.course.counted) ≡ None

-- ---- the start

-- at the start of a message within the limits
pub record IsAtStart (L : Bounds) (to_head : Bool) (v : JudgedView) : Type 0 where
  pub reading : binary.IsAtStart L v.reading
  pub to_head_is : v.to_head ≡ to_head
  pub course : v.course ≡ start_course
