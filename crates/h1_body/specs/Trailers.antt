-- A trailer section that is read in pieces.
use Rattle.std.specs.Prelude.{ℕ, ◌≡◌, ◌<◌, ◌≤◌, ◌+◌, ◌-◌, ◌*◌, ◌^◌, Some, None, List, [], ◌++◌, length, take}
use Rattle.bh_spec.specs.Bounds.{Bounds}
use Rattle.bh_spec.specs.Messages.{Field}
use Rattle.bh_model.specs.Lines.{FieldsView}
use Rattle.bh_spec.specs.declared.H1Why.TheVariants as why
use Rattle.h1_spec.specs.Grammar.{crlf}
use Rattle.h1_spec.specs.Heads.{HoldsNoEnd}
use Rattle.h1_spec.specs.Bodies.{IsTrailerSection}
use Rattle.h1_head.specs.Ends.{ReaderView}
use Rattle.h1_spec.specs.BodyStates.{At, in_trailers, over, OfRest, nothing_behind, Moves, IsRefusedFrom}
use Rattle.h1_body.specs.declared.trailers.TrailerStep.{TrailerStep}
use Rattle.h1_body.specs.declared.trailers.TrailerStep.TheVariants as steps

-- What is known of a reader behind these bytes of a trailer section of at most so many: its head reader has seen them behind the line
-- end of the last chunk line, and there is room for what they say.
pub record IsReady (section : ℕ) (seen : List ℕ) (head : ReaderView) (spans : ℕ) (fields : FieldsView) : Type 0 where
  pub seen_is : head.seen ≡ crlf ++ seen
  pub none : HoldsNoEnd head.seen
  pub limit : head.limit ≡ section + 2
  pub more : length head.seen < head.limit
  pub small : section ≤ 2 ^ 24
  pub room : section ≤ 4 * spans + 1
  pub empty : fields.lines ≡ []
  pub idle : fields.making ≡ None
  pub spare : section ≤ fields.spare
  pub free : section ≤ 3 * fields.free + 2

-- The trailer section ends with the last of so many bytes of the piece: those before it are too few, nothing else is wrong with them, and
-- these are its lines.
pub record IsEnded (section : ℕ) (v : At) (piece : List ℕ) (taken : ℕ) (lines : List Field) : Type 0 where
  pub some : 0 < taken
  pub behind : At
  pub none : (L : Bounds) → L.section ≡ Some section → Moves L v (take (taken - 1) piece) [] behind
  pub before : (L : Bounds) → L.section ≡ Some section → OfRest L nothing_behind v (take (taken - 1) piece) why.Ended
  pub bytes : List ℕ
  pub read : (L : Bounds) → L.section ≡ Some section → IsTrailerSection L lines bytes

-- What a piece makes of it.
abbrev pub SaysTrailers : ℕ → List ℕ → List ℕ → TrailerStep → List Field → Type 0
SaysTrailers section seen piece steps.Need lines = (L : Bounds) → L.section ≡ Some section
    → Moves L (in_trailers seen) piece [] (in_trailers (seen ++ piece)) × OfRest L nothing_behind (in_trailers seen) piece why.Ended
SaysTrailers section seen piece (steps.Whole taken) lines = (taken ≤ length piece)
    × ((L : Bounds) → L.section ≡ Some section → Moves L (in_trailers seen) (take taken piece) [] (over lines))
    × IsEnded section (in_trailers seen) piece taken lines
SaysTrailers section seen piece (steps.Refused cause) lines = IsRefusedFrom section (in_trailers seen) piece cause

-- and what is known then
abbrev pub KnownTrailers : TrailerStep → ℕ → List ℕ → ReaderView → ℕ → FieldsView → Type 0
KnownTrailers steps.Need section seen head spans fields = IsReady section seen head spans fields
KnownTrailers (steps.Whole taken) section seen head spans fields = fields.making ≡ None
KnownTrailers (steps.Refused cause) section seen head spans fields = Unit {0}
