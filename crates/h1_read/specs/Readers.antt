-- The readers of the parts of a message: where they stand, what is known of them between two calls, and what a call says.
use Rattle.std.specs.Prelude.{ℕ, ◌≡◌, ◌<◌, ◌≤◌, ◌+◌, ◌⊎◌, Bool, false, Option, Some, Result, Ok, Err, List, [], ◌∷◌, ◌++◌, length, take, map}
use Rattle.bh_spec.specs.declared.H1Why.{H1Why}
use Rattle.bh_spec.specs.declared.H1Why.TheVariants as why
use Rattle.bh_spec.specs.Bounds.{IsWithin}
use Rattle.bh_spec.specs.Messages.{Field, Interim}
use Rattle.bh_spec.specs.Items.{Item, interim_response, head, content_byte, trailer_section, Head}
use Rattle.bh_model.specs.Ranges.{AreLimits}
use Rattle.bh_stream.specs.Decoding.{content_items, IsAlive, IsSilent, Took}
use Rattle.bh_stream.specs.declared.traits.Event.{Event}
use Rattle.bh_stream.specs.declared.traits.Event.TheVariants as events
use Rattle.bh_stream.specs.declared.traits.Pushed.{Pushed}
use Rattle.bh_stream.specs.declared.traits.Pushed.TheVariants as pushed
use Rattle.h1_spec.specs.declared.Framing1.TheVariants.{Chunked}
use Rattle.h1_spec.specs.Heads.{HoldsNoEnd}
use Rattle.h1_spec.specs.Translation.{OfWholeHead}
use Rattle.h1_spec.specs.BodyStates.{At, start, over}
use Rattle.h1_head.specs.Ends.{ReaderView}
use Rattle.h1_body.specs.Readers.{BodyView}
use Rattle.h1_read.specs.declared.heads.HeadJudge.{HeadJudge}
use Rattle.h1_read.specs.HeadJudges.{JudgeView, view_of, IsSound}
use Rattle.h1_read.specs.Places.{Setting, Place, in_head, in_body, behind_trailers, RestFrom}
use Rattle.h1_read.specs.Wrong.{WrongFrom}
use Rattle.h1_read.specs.Readings.{Goes, IsWhole}
use Rattle.h1_read.specs.declared.reader.Phase.{Phase}
use Rattle.h1_read.specs.declared.reader.Phase.TheVariants as phases
use Rattle.h1_read.specs.declared.reader.Reader.{Reader}

-- ---- where a reader stands

abbrev pub setting_in : JudgeView → Setting
setting_in v = record { limits = v.limits; scheme = v.scheme; to_head = v.to_head }

abbrev pub setting_of : Reader → Setting
setting_of r = setting_in (view_of r.judge)

abbrev pub place_at : Phase → List ℕ → List (List ℕ) → At → Place
place_at (phases.Head interims) seen named at = in_head interims seen
place_at phases.Body seen named at = in_body named at
place_at phases.Trailers seen named at = behind_trailers

abbrev pub place_of : Reader → Place
place_of r = place_at r.phase r.heads.seen (view_of r.judge).named r.body.at

-- ---- what is known between two calls

-- The readers are of the same limits.
pub record IsBuilt (j : HeadJudge) (heads : ReaderView) (body : BodyView) : Type 0 where
  pub limits : AreLimits j.limits
  pub heads_limit : j.limits.section ≡ Some heads.limit
  pub body_limit : j.limits.section ≡ Some body.section
  pub judge : IsSound j

-- in a head: it isn't over, and the body's reader is at its start
pub record IsInHead (S : Setting) (interims : ℕ) (heads : ReaderView) (body : BodyView) : Type 0 where
  pub none : HoldsNoEnd heads.seen
  pub more : length heads.seen < heads.limit
  pub few : IsWithin S.limits.interims interims
  pub unbroken : body.refused ≡ false
  pub fresh : body.at ≡ start Chunked

-- in the body, of which a trailer section isn't over
pub record IsInBody (body : BodyView) : Type 0 where
  pub unbroken : body.refused ≡ false
  pub going : (lines : List Field) → body.at ≡ over lines → ⊥

abbrev pub IsInPhase : Phase → Setting → ReaderView → BodyView → Type 0
IsInPhase (phases.Head interims) S heads body = IsInHead S interims heads body
IsInPhase phases.Body S heads body = IsInBody body
IsInPhase phases.Trailers S heads body = Unit {0}

abbrev pub IsBuiltReader : Reader → Type 0
IsBuiltReader r = IsBuilt r.judge r.heads r.body

abbrev pub Stands : Reader → Type 0
Stands r = IsInPhase r.phase (setting_of r) r.heads r.body

-- ---- what a call says

abbrev pub TookAt : Setting → Place → List ℕ → ℕ → List Item → Place → Type 0
TookAt S p piece n items r = Took (RestFrom S) (Goes S) p piece n items r

-- The whole piece was taken: something completes the message, or the piece holds no content; it may end there, or the bytes are too few.
pub record NeedsAt (S : Setting) (p : Place) (piece : List ℕ) (r : Place) : Type 0 where
  pub goes : Goes S p piece [] r
  pub passes : IsAlive (RestFrom S) r ⊎ IsSilent (RestFrom S) p piece
  pub before : IsWhole S r ⊎ WrongFrom S p piece why.Ended

-- The message may end there, and a byte more is too much.
pub record IsOver (S : Setting) (p : Place) : Type 0 where
  pub whole : IsWhole S p
  pub extra : (bytes : List ℕ) → (bytes ≡ [] → ⊥) → WrongFrom S p bytes why.Extra

-- A byte of the piece is the first that decides.
pub record RefusedAt (S : Setting) (p : Place) (piece : List ℕ) (cause : H1Why) : Type 0 where
  pub at : ℕ
  pub inside : at < length piece
  pub state : Place
  pub goes : Goes S p (take at piece) [] state
  pub before : IsWhole S state ⊎ WrongFrom S p (take at piece) why.Ended
  pub wrong : (after : List ℕ) → WrongFrom S p (take (at + 1) piece ++ after) cause
  pub not_end : cause ≡ why.Ended → ⊥

-- the item of an event, with what the judge shows
abbrev pub ShowsIn : JudgeView → Event → Item → Type 0
ShowsIn v (events.Interim status) item = item ≡ interim_response status v.lines
ShowsIn v events.Head item = (of : Head) × (item ≡ head of v.lines) × (v.head ≡ Some of)
ShowsIn v events.Trailers item = item ≡ trailer_section v.lines

abbrev pub WholeAt : Setting → Place → List ℕ → ℕ → Event → Place → JudgeView → Type 0
WholeAt S p piece taken event r v = (item : Item) × TookAt S p piece taken (item ∷ []) r × ShowsIn v event item

abbrev pub Steps : Setting → Place → List ℕ → Pushed H1Why → Place → JudgeView → Type 0
Steps S p piece pushed.Need r v = NeedsAt S p piece r
Steps S p piece (pushed.Content taken bytes) r v = TookAt S p piece taken (map content_byte bytes.now) r × (0 < length bytes.now)
    × (length bytes.now ≤ taken)
Steps S p piece (pushed.Whole taken event) r v = WholeAt S p piece taken event r v
Steps S p piece (pushed.Refused cause) r v = RefusedAt S p piece cause

-- the reader stands somewhere, unless it refused the message
abbrev pub StandsBehind : Pushed H1Why → Phase → Setting → ReaderView → BodyView → Type 0
StandsBehind pushed.Need phase S heads body = IsInPhase phase S heads body
StandsBehind (pushed.Content taken bytes) phase S heads body = IsInPhase phase S heads body
StandsBehind (pushed.Whole taken event) phase S heads body = IsInPhase phase S heads body
StandsBehind (pushed.Refused cause) phase S heads body = Unit {0}

-- ---- a whole head

-- Behind so many informational responses the bytes are a head, however they were cut; or none, for this cause.
abbrev pub SaysHead : Setting → ℕ → List ℕ → Result Event H1Why → Place → JudgeView → Type 0
SaysHead S n bytes (Ok event) r v = (item : Item) × ((seen x : List ℕ) → seen ++ x ≡ bytes → Goes S (in_head n seen) x (item ∷ []) r)
    × IsAlive (RestFrom S) r × ShowsIn v event item
SaysHead S n bytes (Err cause) r v = ((interims : List Interim) (rest : List ℕ) → length interims ≡ n
    → OfWholeHead S.limits S.scheme S.to_head interims bytes rest cause) × (cause ≡ why.Ended → ⊥)

abbrev pub StandsAtHead : Result Event H1Why → Phase → Setting → ReaderView → BodyView → Type 0
StandsAtHead (Ok event) phase S heads body = IsInPhase phase S heads body
StandsAtHead (Err cause) phase S heads body = Unit {0}
