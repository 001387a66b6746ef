-- What contracts see of a writer of HTTP/1.1.
use Rattle.std.specs.Prelude.{◌≡◌, ◌≤◌, ◌<◌, ◌+◌, ◌*◌, ℕ, Bool, true, false, List, [], ◌∷◌, ◌++◌, length, drop, vec_len, vec_capacity, Result, Some}
use Rattle.bh_spec.specs.declared.Omitted.{Omitted}
use Rattle.bh_spec.specs.Bounds.{Bounds}
use Rattle.bh_spec.specs.Messages.{Field, Start, request, response}
use Rattle.bh_spec.specs.Items.{Item, interim_response, head, content_byte, trailer_section, ending, Head, of_request, of_response}
use Rattle.bh_base.specs.declared.failed.Failed.{Failed}
use Rattle.bh_base.specs.Steps.{Step}
use Rattle.h1_spec.specs.Heads.{request_line, status_line}
use Rattle.h1_spec.specs.Heads as heads
use Rattle.h1_spec.specs.Http1Text.{target_text, host_lines, has_no_body}
use Rattle.bh_stream.specs.Outputs.{Output}
use Rattle.bh_stream.specs.Jobs.{Sends}
use Rattle.h1_spec.specs.Http1.{start_of}
use Rattle.h1_text.specs.Gathering.{GatheredView}
use Rattle.h1_text.specs.Owed.{Duty, at_start, head_held, head_waits, in_body, all_done, owed, held, head_front, head_end}
use Rattle.h1_text.specs.declared.stage.Stage.{Stage}
use Rattle.h1_text.specs.declared.stage.Stage.TheVariants as stages
use Rattle.h1_text.specs.declared.writer.Http1Writer.TheInside.{Inside}

-- A writer: whether its message answers HEAD, where it stands, and the room that it has for the target of a request, and for a head.
pub record Writing : Type 0 where
  pub to_head : Bool
  pub duty : Duty
  pub target_room : ℕ
  pub head_room : ℕ

-- before the first item
abbrev pub before_all : Bool → ℕ → ℕ → Writing
before_all to_head target_room head_room = record { to_head = to_head; duty = at_start; target_room = target_room; head_room = head_room }

-- a writer within some limits: it has room for each target and each head that keep them
abbrev pub IsAtStart : Bounds → Bool → Writing → Type 0
IsAtStart L to_head v = (part section : ℕ) × (L.part ≡ Some part) × (L.section ≡ Some section)
    × (v ≡ before_all to_head (3 * part + 3) (5 * part + 2 * section + 54))

-- ---- which items may come

-- There is room for a head that may be held, with its end.
abbrev pub HasRoom : Writing → Head → List Field → Type 0
HasRoom v (of_request control) fields = (length (target_text control) ≤ v.target_room)
    × (length (head_front (request control) fields) + length (head_end true) < v.head_room)
HasRoom v (of_response status) fields = length (head_front (response [] status) fields) + length (head_end false) < v.head_room

-- behind the trailer section
abbrev pub EndComes : List Item → Type 0
EndComes q = (omitted : Omitted) × (padding : ℕ) × (q ≡ ending omitted padding ∷ [])

-- Behind the head of a message, of which it is said whether it has no body: then no content comes.
abbrev pub BodyComes : Bool → List Item → Type 0
BodyComes none [] = ⊥
BodyComes none ((interim_response status fields) ∷ q) = ⊥
BodyComes none ((head of fields) ∷ q) = ⊥
BodyComes none ((content_byte x) ∷ q) = (none ≡ false) × BodyComes none q
BodyComes none ((trailer_section fields) ∷ q) = EndComes q
BodyComes none ((ending omitted padding) ∷ q) = q ≡ []

-- before a head
abbrev pub MessageComes : Writing → List Item → Type 0
MessageComes v [] = ⊥
MessageComes v ((interim_response status fields) ∷ q) = MessageComes v q
MessageComes v ((head of fields) ∷ q) = HasRoom v of fields × BodyComes (has_no_body v.to_head (start_of of)) q
MessageComes v ((content_byte x) ∷ q) = ⊥
MessageComes v ((trailer_section fields) ∷ q) = ⊥
MessageComes v ((ending omitted padding) ∷ q) = ⊥

abbrev pub comes_to : Duty → Writing → List Item → Type 0
comes_to at_start v q = MessageComes v q
comes_to (head_held front) v q = BodyComes false q
comes_to (head_waits whole) v q = BodyComes true q
comes_to (in_body chunked kept) v q = BodyComes false q
comes_to all_done v q = EndComes q

abbrev pub takes : Writing → List Item → Type 0
takes v q = comes_to v.duty v q

-- is it the turn of content, or may it be?
abbrev pub MayHaveBody : Duty → Type 0
MayHaveBody at_start = ⊥
MayHaveBody (head_held front) = Unit {0}
MayHaveBody (head_waits whole) = ⊥
MayHaveBody (in_body chunked kept) = Unit {0}
MayHaveBody all_done = ⊥

-- is it the turn of the trailer section, or may it be?
abbrev pub IsBehindHead : Duty → Type 0
IsBehindHead at_start = ⊥
IsBehindHead (head_held front) = Unit {0}
IsBehindHead (head_waits whole) = Unit {0}
IsBehindHead (in_body chunked kept) = Unit {0}
IsBehindHead all_done = ⊥

-- the head that is written, up to a line that says that chunks follow
abbrev pub head_of : Start → List Field → heads.Head
head_of (request control) fields =
    record { start = request_line control.method (target_text control); fields = host_lines control ++ fields }
head_of (response interims status) fields = record { start = status_line status; fields = fields }

-- what is still to be written, and how many bytes of content are held
abbrev pub owes : Writing → List Item → Output
owes v q = owed v.to_head v.duty q

abbrev pub holds : Writing → ℕ
holds v = held v.duty

-- what a call did for items
abbrev pub JobSends : {S : Type 0} → (S → Step → S → Type 0) → Writing → Writing → List Item → S → Result (Unit {0}) Failed → S → Type 0
JobSends step v w items s r t =
    Sends step true 8191 (owes v) (owes w) (holds v) (holds w) (takes v) (takes w) items s r t

-- ---- the fields

abbrev pub duty_of : Stage → List ℕ → List ℕ → Duty
duty_of stages.Start front kept = at_start
duty_of stages.Held front kept = head_held front
duty_of stages.Bodyless front kept = head_waits front
duty_of (stages.Body chunked) front kept = in_body chunked kept
duty_of stages.Ended front kept = all_done

-- all the room of what is gathered
abbrev pub room_of : GatheredView → ℕ
room_of v = v.room + length v.bytes

abbrev pub writing_of : Stage → Bool → GatheredView → GatheredView → List ℕ → Writing
writing_of stage to_head target front kept = record {
  to_head = to_head;
  duty = duty_of stage front.bytes kept;
  target_room = room_of target;
  head_room = room_of front;
}

-- the line of a whole chunk stands in front: 2000 CR LF
abbrev pub framed : List ℕ → List ℕ
framed kept = 50 ∷ (48 ∷ (48 ∷ (48 ∷ (13 ∷ (10 ∷ kept)))))

abbrev pub IsFramed : List ℕ → Type 0
IsFramed items = (kept : List ℕ) × (items ≡ framed kept)

-- before the body nothing is held of it, and there is room for the end of a head that is held
abbrev pub IsStage : Stage → GatheredView → List ℕ → Type 0
IsStage stages.Start front kept = kept ≡ []
IsStage stages.Held front kept = (kept ≡ []) × (length (head_end true) < front.room)
IsStage stages.Bodyless front kept = kept ≡ []
IsStage (stages.Body chunked) front kept = Unit {0}
IsStage stages.Ended front kept = Unit {0}

-- The open chunk isn't whole, and has room for a whole one with its line and its line end.
pub record IsWriter (w : Inside) : Type 0 where
  pub few : vec_len w.chunk ≤ 8197
  pub room : 8200 ≤ vec_capacity w.chunk
  pub framed : IsFramed w.chunk.items
  pub stage : IsStage w.stage w.head (drop 6 w.chunk.items)
  pub none : w.none.lines ≡ []
