-- A reader of things of one kind over pieces: what it answers, by what completes the thing from what it stores. `A i t` says that the
-- text t completes the thing i within the limits, and `C i t` that it does without; B and D say so of the reader behind some bytes.
use Rattle.std.specs.Prelude.{ℕ, ◌≡◌, ◌↔◌, List, [], ◌∷◌, take}
use Rattle.bh_spec.specs.declared.Part.{Part}
use Rattle.bh_spec.specs.declared.PieceStep.{PieceStep}
use Rattle.bh_spec.specs.declared.PieceStep.TheVariants as steps
use Rattle.bh_spec.specs.declared.Judged.{Judged}
use Rattle.bh_spec.specs.declared.Judged.TheVariants as judged
use Rattle.bh_spec.specs.Texts.{Text}
use Rattle.bh_spec.specs.Pieces.{SomeOf, IsText, CanBecome, IsNext, Ends, GoesOn, IsDead, IsLimit}
use Rattle.bh_spec.specs.Residuals.{IsResidual}

-- nothing was begun; a thing is read; it is whole; a byte was refused
pub data Stage : Type 0 where
  idle : Stage
  reading : Stage
  whole : Stage
  refused : Stage

-- what an answer says of the bytes before a piece, and of the piece: R within the limits, S without
abbrev pub Shows : (Text → Type 0) → (Text → Type 0) → List ℕ → List ℕ → PieceStep → Type 0
Shows R S bytes piece steps.Need = GoesOn R bytes piece
Shows R S bytes piece (steps.Whole taken) = Ends R bytes piece taken
Shows R S bytes piece (steps.Dead offset part) = IsDead R S bytes piece offset part
Shows R S bytes piece (steps.Limit offset part) = IsLimit R S bytes piece offset part

-- behind the bytes exactly what completes the thing from there completes it from before
pub record Leads {I : Type 0} (A C B D : I → Text → Type 0) (bytes : List ℕ) : Type 0 where
  pub within : IsResidual A bytes (λ i. i) B
  pub anyway : IsResidual C bytes (λ i. i) D

abbrev pub stage_behind : PieceStep → Stage
stage_behind steps.Need = reading
stage_behind (steps.Whole taken) = whole
stage_behind (steps.Dead offset part) = refused
stage_behind (steps.Limit offset part) = refused

-- where the bytes lead that were taken: behind a whole thing, to that thing
abbrev pub LeadsTo : {I : Type 0} → (A C B D : I → Text → Type 0) → List ℕ → PieceStep → I → Type 0
LeadsTo A C B D piece steps.Need i = Leads A C B D piece
LeadsTo A C B D piece (steps.Whole taken) i = Leads A C B D (take taken piece) × B i []
LeadsTo A C B D piece (steps.Dead offset part) i = Unit {0}
LeadsTo A C B D piece (steps.Limit offset part) i = Unit {0}

-- Where a reader stood at the byte that it refuses. `On bytes w`: the bytes lead to w, and it still reads there.
abbrev pub StoodBefore : {V : Type 0} → (List ℕ → V → Type 0) → List ℕ → PieceStep → Type 0
StoodBefore {V} On piece steps.Need = Unit {0}
StoodBefore {V} On piece (steps.Whole taken) = Unit {0}
StoodBefore {V} On piece (steps.Dead offset part) = (w : V) × On (take offset piece) w
StoodBefore {V} On piece (steps.Limit offset part) = (w : V) × On (take offset piece) w

-- what a byte makes of a reader, and where it stands behind it
abbrev pub Takes : {I : Type 0} → (A C B D : I → Text → Type 0) → ℕ → Judged → Stage → I → Type 0
Takes A C B D byte judged.More stage i = (stage ≡ reading) × Leads A C B D (byte ∷ [])
Takes A C B D byte judged.Whole stage i = (stage ≡ whole) × Leads A C B D (byte ∷ []) × B i []
Takes A C B D byte judged.Limit stage i = (stage ≡ refused) × (CanBecome (SomeOf A) (byte ∷ []) → ⊥) × CanBecome (SomeOf C) (byte ∷ [])
Takes A C B D byte judged.Dead stage i = (stage ≡ refused) × (CanBecome (SomeOf A) (byte ∷ []) → ⊥) × (CanBecome (SomeOf C) (byte ∷ []) → ⊥)

-- What is said of a piece from where bytes led is said of the bytes before it and of the piece, by R within the limits and S without.
pub record SaysOfAll {I : Type 0} (R S A C : I → Text → Type 0) (bytes piece : List ℕ) : Type 0 where
  pub need : GoesOn (SomeOf R) bytes piece ↔ GoesOn (SomeOf A) [] piece
  pub whole : (taken : ℕ) → Ends (SomeOf R) bytes piece taken ↔ Ends (SomeOf A) [] piece taken
  pub dead : (offset : ℕ) (part : Part)
      → IsDead (SomeOf R) (SomeOf S) bytes piece offset part ↔ IsDead (SomeOf A) (SomeOf C) [] piece offset part
  pub limit : (offset : ℕ) (part : Part)
      → IsLimit (SomeOf R) (SomeOf S) bytes piece offset part ↔ IsLimit (SomeOf A) (SomeOf C) [] piece offset part
  pub next : (part : Part) → IsNext (SomeOf R) bytes part ↔ IsNext (SomeOf A) [] part
  pub thing : (i : I) → IsText (R i) bytes ↔ A i []
