-- What contracts see of a writer of canonical texts.
use Rattle.std.specs.Prelude.{◌≡◌, ◌≤◌, ℕ, true, false, None, List, [], ◌∷◌, length, drop, vec_len, vec_capacity}
use Rattle.bh_spec.specs.declared.Kind.TheVariants.{Response}
use Rattle.bh_spec.specs.Bounds.{Bounds}
use Rattle.bh_spec.specs.Items.{Item}
use Rattle.bh_model.specs.Ranges.{AreLimits}
use Rattle.bh_stream.specs.Outputs.{Output}
use Rattle.bh_reading.specs.Coming.{MessageComes, TailComes, EndComes}
use Rattle.bh_canonical.specs.Owed.{tail_owed, message_owed}
use Rattle.bh_canonical.specs.declared.sending.Stage.{Stage}
use Rattle.bh_canonical.specs.declared.sending.Stage.TheVariants as stages
use Rattle.bh_canonical.specs.declared.writer.CanonWriter.TheInside.{Inside}

-- a writer: before the first item, behind interim responses, behind the head with so much content held, and behind the end
pub data Writing : Type 0 where
  before_all : Writing
  behind_interim : Writing
  with_chunk : List ℕ → Writing
  behind_all : Writing

-- what is still to be written
abbrev pub owed : Writing → List Item → Output
owed before_all q = message_owed false q
owed behind_interim q = message_owed true q
owed (with_chunk kept) q = tail_owed kept q
owed behind_all q = []

-- how many bytes of content are held
abbrev pub held : Writing → ℕ
held before_all = 0
held behind_interim = 0
held (with_chunk kept) = length kept
held behind_all = 0

-- what may come within some limits
abbrev pub ComesTo : Bounds → Writing → List Item → Type 0
ComesTo L before_all q = MessageComes L false q
ComesTo L behind_interim q = MessageComes L true q
ComesTo L (with_chunk kept) q = TailComes L q
ComesTo L behind_all q = EndComes q

abbrev pub takes : Writing → List Item → Type 0
takes v q = (L : Bounds) × AreLimits L × ComesTo L v q

-- ---- the fields

abbrev pub writing_of : Stage → List ℕ → Writing
writing_of stages.Start kept = before_all
writing_of (stages.Interims encoder) kept = behind_interim
writing_of (stages.Content encoder) kept = with_chunk kept
writing_of stages.Ended kept = behind_all

-- before the head nothing is held, and behind an interim response the framing number went out
abbrev pub IsStage : Stage → List ℕ → Type 0
IsStage stages.Start kept = kept ≡ []
IsStage (stages.Interims encoder) kept = (kept ≡ []) × (encoder ≡ record { kind = Response; begun = true })
IsStage (stages.Content encoder) kept = Unit {0}
IsStage stages.Ended kept = Unit {0}

-- the length of a whole chunk, in two bytes, stands in front
abbrev pub IsFramed : List ℕ → Type 0
IsFramed items = (kept : List ℕ) × (items ≡ 96 ∷ (0 ∷ kept))

-- The open chunk isn't whole, and has room for a whole one.
pub record IsWriter (w : Inside) : Type 0 where
  pub few : vec_len w.chunk ≤ 8193
  pub room : 8194 ≤ vec_capacity w.chunk
  pub framed : IsFramed w.chunk.items
  pub stage : IsStage w.stage (drop 2 w.chunk.items)
  pub none : w.none.lines ≡ []
  pub ended : w.none.making ≡ None
