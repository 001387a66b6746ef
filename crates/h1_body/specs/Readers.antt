-- A reader of a whole body.
use Rattle.std.specs.Prelude.{ℕ, ◌≡◌, ◌≤◌, ◌⊎◌, Bool, true, false, Some, None, List, [], length, take, drop, vec_len}
use Rattle.bh_spec.specs.Bounds.{Bounds}
use Rattle.bh_spec.specs.Messages.{Field}
use Rattle.bh_model.specs.Lines.{FieldsView}
use Rattle.bh_spec.specs.declared.H1Why.TheVariants as why
use Rattle.h1_head.specs.Ends.{ReaderView}
use Rattle.h1_spec.specs.BodyStates.{At, to_end, in_trailers, over, trailers_of, OfRest, nothing_behind, Moves, IsRefusedFrom}
use Rattle.h1_body.specs.declared.content.Phase.{Phase}
use Rattle.h1_body.specs.declared.content.Phase.TheVariants as phases
use Rattle.h1_body.specs.declared.reading.Reading.{Reading}
use Rattle.h1_body.specs.declared.reader.BodyStep.{BodyStep}
use Rattle.h1_body.specs.declared.reader.BodyStep.TheVariants as steps
use Rattle.h1_body.specs.Contents.{at_of, IsValid, IsReading, IsContent}
use Rattle.h1_body.specs.Trailers.{IsReady, IsEnded}

-- in the trailer section, or behind it
abbrev pub trailers_at : Bool → List ℕ → List Field → At
trailers_at true seen lines = over lines
trailers_at false seen lines = in_trailers seen

abbrev pub place_of : Phase → Bool → List ℕ → List Field → At
place_of (phases.Count missing) ended seen lines = at_of (phases.Count missing)
place_of phases.ToEnd ended seen lines = to_end
place_of (phases.Line line room) ended seen lines = at_of (phases.Line line room)
place_of (phases.Chunk missing) ended seen lines = at_of (phases.Chunk missing)
place_of phases.ChunkEnd ended seen lines = at_of phases.ChunkEnd
place_of phases.ChunkLf ended seen lines = at_of phases.ChunkLf
place_of phases.Trailers ended seen lines = trailers_at ended seen lines

-- What is known of a reader that is not over and has refused nothing.
pub record IsOpenReader (phase : Phase) (ended : Bool) (section : ℕ) (seen : List ℕ) (head : ReaderView) (spans : ℕ)
    (fields : FieldsView) : Type 0 where
  pub valid : IsValid phase
  pub not_ended : ended ≡ false
  pub ready : IsReady section seen head spans fields
  pub begun : (phase ≡ phases.Trailers → ⊥) → seen ≡ []

-- something is still to be read
abbrev pub IsUnfinished : Phase → Type 0
IsUnfinished phase = (phase ≡ phases.Trailers) ⊎ IsReading phase

-- What a piece makes of a body whose trailer section may have so many bytes.
abbrev pub SaysBody : ℕ → At → List ℕ → BodyStep → At → Type 0
SaysBody section v piece steps.Need w = (L : Bounds) → L.section ≡ Some section
    → Moves L v piece [] w × (((v ≡ to_end) × (piece ≡ [])) ⊎ OfRest L nothing_behind v piece why.Ended)
SaysBody section v piece (steps.Content taken bytes) w = IsContent v piece taken bytes.now w
SaysBody section v piece (steps.Whole taken) w = (taken ≤ length piece) × ((lines : List Field) × (w ≡ over lines))
    × ((L : Bounds) → L.section ≡ Some section → Moves L v (take taken piece) [] w) × IsEnded section v piece taken (trailers_of w)
SaysBody section v piece (steps.Refused cause) w = IsRefusedFrom section v piece cause

-- Where no more can be said of the piece, no trailer section is over.
abbrev pub IsGoing : BodyStep → At → Type 0
IsGoing steps.Need w = (lines : List Field) → w ≡ over lines → ⊥
IsGoing (steps.Content taken bytes) w = Unit {0}
IsGoing (steps.Whole taken) w = Unit {0}
IsGoing (steps.Refused cause) w = Unit {0}

-- and what is known then
abbrev pub KnownBody : BodyStep → Phase → Bool → ℕ → List ℕ → ReaderView → ℕ → FieldsView → Type 0
KnownBody steps.Need phase ended section seen head spans fields = IsOpenReader phase ended section seen head spans fields
    × IsUnfinished phase
KnownBody (steps.Content taken bytes) phase ended section seen head spans fields = IsOpenReader phase ended section seen head spans fields
KnownBody (steps.Whole taken) phase ended section seen head spans fields = fields.making ≡ None
KnownBody (steps.Refused cause) phase ended section seen head spans fields = Unit {0}

-- within limits with this bound of the trailer section the bytes are too few there
abbrev pub AwaitsMoreWithin : ℕ → At → Type 0
AwaitsMoreWithin section v = (L : Bounds) → L.section ≡ Some section → OfRest L nothing_behind v [] why.Ended

-- What contracts see of a reader: the bytes that a trailer section may have, where the reader stands, and whether it refused the body.
pub record BodyView : Type 0 where
  pub section : ℕ
  pub at : At
  pub refused : Bool

-- where the parts of a reader stand
abbrev pub place : Reading → At
place r = place_of r.content.phase r.ended (drop 2 r.trailers.head.seen) r.trailers.fields.lines

abbrev pub IsOpenReading : Reading → Type 0
IsOpenReading r = IsOpenReader r.content.phase r.ended r.trailers.section (drop 2 r.trailers.head.seen) r.trailers.head
    (vec_len r.trailers.spans) r.trailers.fields

abbrev pub KnownReading : BodyStep → Reading → Type 0
KnownReading step r = KnownBody step r.content.phase r.ended r.trailers.section (drop 2 r.trailers.head.seen) r.trailers.head
    (vec_len r.trailers.spans) r.trailers.fields

-- what is known of a reader: it refused the body, or its trailer section is over, or it is open
abbrev pub IsSound : Bool → Phase → Bool → ℕ → List ℕ → ReaderView → ℕ → FieldsView → Type 0
IsSound true phase ended section seen head spans fields = Unit {0}
IsSound false phase true section seen head spans fields = (phase ≡ phases.Trailers) × (fields.making ≡ None)
IsSound false phase false section seen head spans fields = IsOpenReader phase false section seen head spans fields

abbrev pub IsSoundReading : Bool → Reading → Type 0
IsSoundReading refused r =
    IsSound refused r.content.phase r.ended r.trailers.section (drop 2 r.trailers.head.seen) r.trailers.head (vec_len r.trailers.spans)
    r.trailers.fields

abbrev pub is_refused : BodyStep → Bool
is_refused steps.Need = false
is_refused (steps.Content taken bytes) = false
is_refused (steps.Whole taken) = false
is_refused (steps.Refused cause) = true
