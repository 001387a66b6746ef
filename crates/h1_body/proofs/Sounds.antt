-- A reader is sound between calls.
use Rattle.std.proofs.Common.{◌≡◌, ◌<◌, ◌+◌, arith, Bool, true, false, ℕ, List, length, subst, None, refl, sym, ap, ◌∙◌, [], inl, inr}
use Rattle.std.proofs.lemmas.Bool.{eqb-false, false≢true}
use Rattle.bh_spec.specs.Messages.{Field}
use Rattle.bh_model.specs.Lines.{FieldsView}
use Rattle.h1_spec.specs.BodyStates.{At, in_trailers, over, is_whole, may_end, trailers_of}
use Rattle.h1_spec.specs.Heads.{HoldsNoEnd}
use Rattle.h1_spec.proofs.TrailerEnds.{trailers_unended}
use Rattle.h1_spec.proofs.LineSteps.{line_unended}
use Rattle.h1_spec.proofs.ChunkSteps.{chunk_unended, count_unended, cr_missing, lf_missing}
use Rattle.h1_head.specs.Ends.{ReaderView}
use Rattle.h1_body.specs.declared.content.Phase.{Phase}
use Rattle.h1_body.specs.declared.content.Phase.TheVariants as phases
use Rattle.h1_body.specs.declared.reader.BodyStep.{BodyStep}
use Rattle.h1_body.specs.declared.reader.BodyStep.TheVariants as steps
use Rattle.h1_body.specs.Readers.{place_of, IsOpenReader, IsUnfinished, SaysBody, IsGoing, KnownBody, IsSound, is_refused, AwaitsMoreWithin}
use Rattle.h1_body.specs.Lines.{state_of}
use Rattle.h1_body.specs.Contents.{IsValid}
use Rattle.h1_body.specs.Trailers.{IsReady}
use Rattle.h1_body.proofs.Phases.{few_of, open_of}

open_sound : (phase : Phase) (ended : Bool) (section : ℕ) (seen : List ℕ) (head : ReaderView) (spans : ℕ) (fields : FieldsView)
    → IsOpenReader phase ended section seen head spans fields → IsSound false phase ended section seen head spans fields
open_sound phase true section seen head spans fields h = let no = h.not_ended in absurd cc
open_sound phase false section seen head spans fields h = h

-- a place behind a trailer section
over_place : (phase : Phase) (ended : Bool) (seen : List ℕ) (lines found : List Field) → place_of phase ended seen lines ≡ over found → (phase ≡ phases.Trailers) × (ended ≡ true)
over_place (phases.Count missing) ended seen lines found e = absurd cc
over_place phases.ToEnd ended seen lines found e = absurd cc
over_place (phases.Line line room) ended seen lines found e = absurd cc
over_place (phases.Chunk missing) ended seen lines found e = absurd cc
over_place phases.ChunkEnd ended seen lines found e = absurd cc
over_place phases.ChunkLf ended seen lines found e = absurd cc
over_place phases.Trailers true seen lines found e = (refl, refl)
over_place phases.Trailers false seen lines found e = absurd cc

whole_sound : (phase : Phase) (ended : Bool) (section : ℕ) (seen : List ℕ) (head : ReaderView) (spans : ℕ) (fields : FieldsView)
    → (phase ≡ phases.Trailers) × (ended ≡ true) → fields.making ≡ None → IsSound false phase ended section seen head spans fields
whole_sound phase true section seen head spans fields p m = (p.0, m)
whole_sound phase false section seen head spans fields p m = let no = p.1 in absurd cc

pub sound_after : (step : BodyStep) (most : ℕ) (v : At) (piece : List ℕ) (phase : Phase) (ended : Bool) (section : ℕ) (seen : List ℕ) (head : ReaderView) (spans : ℕ) (fields : FieldsView)
    → SaysBody most v piece step (place_of phase ended seen fields.lines) → KnownBody step phase ended section seen head spans fields
    → IsSound (is_refused step) phase ended section seen head spans fields
sound_after steps.Need most v piece phase ended section seen head spans fields says known = open_sound phase ended section seen head spans fields known.0
sound_after (steps.Content taken bytes) most v piece phase ended section seen head spans fields says known = open_sound phase ended section seen head spans fields known
sound_after (steps.Whole taken) most v piece phase ended section seen head spans fields says known =
    whole_sound phase ended section seen head spans fields (over_place phase ended seen fields.lines says.1.0 says.1.1) known
sound_after (steps.Refused cause) most v piece phase ended section seen head spans fields says known = tt

-- and no trailer section is over where more is needed
pub going_after : (step : BodyStep) (phase : Phase) (ended : Bool) (section : ℕ) (seen : List ℕ) (head : ReaderView) (spans : ℕ) (fields : FieldsView)
    → KnownBody step phase ended section seen head spans fields → IsGoing step (place_of phase ended seen fields.lines)
going_after steps.Need phase ended section seen head spans fields known = λ lines e.
    false≢true (sym known.0.not_ended ∙ (over_place phase ended seen fields.lines lines e).1)
going_after (steps.Content taken bytes) phase ended section seen head spans fields known = tt
going_after (steps.Whole taken) phase ended section seen head spans fields known = tt
going_after (steps.Refused cause) phase ended section seen head spans fields known = tt

unfinished_phase : (phase : Phase) (seen : List ℕ) (lines : List Field) → is_whole (place_of phase false seen lines) ≡ false → IsUnfinished phase
unfinished_phase (phases.Count missing) seen lines e = inr (some missing (eqb-false missing 0 e))
  where
    some : (n : ℕ) → (n ≡ 0 → ⊥) → 0 < n
    some n other = omega (arith, other)
unfinished_phase phases.ToEnd seen lines e = inr tt
unfinished_phase (phases.Line line room) seen lines e = inr tt
unfinished_phase (phases.Chunk missing) seen lines e = inr tt
unfinished_phase phases.ChunkEnd seen lines e = inr tt
unfinished_phase phases.ChunkLf seen lines e = inr tt
unfinished_phase phases.Trailers seen lines e = inl refl

whole_phase : (phase : Phase) (seen : List ℕ) (lines : List Field) → phase ≡ phases.Trailers → is_whole (place_of phase true seen lines) ≡ true
whole_phase phase seen lines e = ap (λ (p : Phase). is_whole (place_of p true seen lines)) e

-- what is not whole and was not refused is open
pub sound_open : (refused : Bool) (phase : Phase) (ended : Bool) (section : ℕ) (seen : List ℕ) (head : ReaderView) (spans : ℕ) (fields : FieldsView)
    → refused ≡ false → is_whole (place_of phase ended seen fields.lines) ≡ false → IsSound refused phase ended section seen head spans fields
    → IsOpenReader phase ended section seen head spans fields × IsUnfinished phase
sound_open true phase ended section seen head spans fields r w h = absurd cc
sound_open false phase true section seen head spans fields r w h = let whole = whole_phase phase seen fields.lines h.0 in absurd cc
sound_open false phase false section seen head spans fields r w h = (h, unfinished_phase phase seen fields.lines w)

-- ---- the trailer section

empty_lines : (phase : Phase) (seen : List ℕ) (lines : List Field) → trailers_of (place_of phase false seen lines) ≡ []
empty_lines (phases.Count missing) seen lines = refl
empty_lines phases.ToEnd seen lines = refl
empty_lines (phases.Line line room) seen lines = refl
empty_lines (phases.Chunk missing) seen lines = refl
empty_lines phases.ChunkEnd seen lines = refl
empty_lines phases.ChunkLf seen lines = refl
empty_lines phases.Trailers seen lines = refl

pub sound_lines : (refused : Bool) (phase : Phase) (ended : Bool) (section : ℕ) (seen : List ℕ) (head : ReaderView) (spans : ℕ) (fields : FieldsView)
    → refused ≡ false → IsSound refused phase ended section seen head spans fields → fields.lines ≡ trailers_of (place_of phase ended seen fields.lines)
sound_lines true phase ended section seen head spans fields r h = absurd cc
sound_lines false phase true section seen head spans fields r h = sym (ap (λ (p : Phase). trailers_of (place_of p true seen fields.lines)) h.0)
sound_lines false phase false section seen head spans fields r h = h.ready.empty ∙ sym (empty_lines phase seen fields.lines)

pub sound_made : (refused : Bool) (phase : Phase) (ended : Bool) (section : ℕ) (seen : List ℕ) (head : ReaderView) (spans : ℕ) (fields : FieldsView)
    → refused ≡ false → IsSound refused phase ended section seen head spans fields → fields.making ≡ None
sound_made true phase ended section seen head spans fields r h = absurd cc
sound_made false phase true section seen head spans fields r h = h.1
sound_made false phase false section seen head spans fields r h = h.ready.idle

-- ---- the end

trailers_await : (section : ℕ) (seen : List ℕ) (head : ReaderView) (spans : ℕ) (fields : FieldsView) → IsReady section seen head spans fields → AwaitsMoreWithin section (in_trailers seen)
trailers_await section seen head spans fields r L l =
    trailers_unended L section seen l (subst HoldsNoEnd r.seen_is r.none) (omega (arith, r.more, r.limit, ap (length {A = ℕ}) r.seen_is))

-- where the bytes may not end, they are too few
pub sound_awaits : (refused : Bool) (phase : Phase) (ended : Bool) (section : ℕ) (seen : List ℕ) (head : ReaderView) (spans : ℕ) (fields : FieldsView)
    → refused ≡ false → may_end (place_of phase ended seen fields.lines) ≡ false → IsSound refused phase ended section seen head spans fields
    → AwaitsMoreWithin section (place_of phase ended seen fields.lines)
sound_awaits true phase ended section seen head spans fields r never h = absurd cc
sound_awaits false phase true section seen head spans fields r never h =
    let may : may_end (place_of phase true seen fields.lines) ≡ true = ap (λ (p : Phase). may_end (place_of p true seen fields.lines)) h.0 in absurd cc
sound_awaits false phase false section seen head spans fields r never h = by_phase phase h.valid never
  where
    by_phase : (p : Phase) → IsValid p → may_end (place_of p false seen fields.lines) ≡ false → AwaitsMoreWithin section (place_of p false seen fields.lines)
    by_phase (phases.Count missing) v never L l = count_unended L missing (some missing (eqb-false missing 0 never))
      where
        some : (n : ℕ) → (n ≡ 0 → ⊥) → 0 < n
        some n other = omega (arith, other)
    by_phase phases.ToEnd v never L l = absurd cc
    by_phase (phases.Line line room) v never L l = line_unended L (state_of line) room (few_of line v.0) (open_of line v.1)
    by_phase (phases.Chunk missing) v never L l = chunk_unended L missing v
    by_phase phases.ChunkEnd v never L l = cr_missing L
    by_phase phases.ChunkLf v never L l = lf_missing L
    by_phase phases.Trailers v never L l = trailers_await section seen head spans fields h.ready L l
