-- What the answers of a reader of sections say, from what it stores.
use Rattle.std.specs.Prelude.{ℕ, ◌≡◌, ◌+◌, ◌*◌, List, [], length, take}
use Rattle.bh_spec.specs.declared.PieceStep.{PieceStep}
use Rattle.bh_spec.specs.declared.PieceStep.TheVariants.{Need, Whole, Dead, Limit}
use Rattle.bh_spec.specs.Bounds.{Bounds, IsWithin, no_bounds}
use Rattle.bh_spec.specs.Texts.{Text}
use Rattle.bh_spec.specs.Pieces.{SomeOf}
use Rattle.bh_spec.specs.Readings.{reading, StoodBefore, stage_behind}
use Rattle.bh_model.specs.Lines.{FieldsView, lines_room, making_room, making_count}
use Rattle.bh_fields.specs.Middle.{SectionView, Rest}
use Rattle.bh_fields.specs.Views.{Leads, IsSameSection}

-- what completes the section: within the reader's limits, and without limits
abbrev pub IsWanted : SectionView → Text → Type 0
IsWanted v = SomeOf (Rest v.limits v)

abbrev pub IsUnlimited : SectionView → Text → Type 0
IsUnlimited v = SomeOf (Rest no_bounds v)

-- where the bytes lead that were taken
abbrev pub LeadsTo : SectionView → List ℕ → PieceStep → SectionView → Type 0
LeadsTo v piece Need w = Leads v piece w
LeadsTo v piece (Whole taken) w = Leads v (take taken piece) w × Rest w.limits w w.lines []
LeadsTo v piece (Dead offset part) w = Unit {0}
LeadsTo v piece (Limit offset part) w = Unit {0}

-- the bytes lead from v to w, and more of the section is to come
pub record IsOnTheWay (v : SectionView) (bytes : List ℕ) (w : SectionView) : Type 0 where
  pub same : IsSameSection v w
  pub stage : w.stage ≡ reading
  pub leads : Leads v bytes w

-- the reader behind the answer, and where it stood at a byte that it refused
pub record IsBehind (v : SectionView) (piece : List ℕ) (step : PieceStep) (w : SectionView) : Type 0 where
  pub limits : w.limits ≡ v.limits
  pub form : w.form ≡ v.form
  pub place : w.place ≡ v.place
  pub stage : w.stage ≡ stage_behind step
  pub leads : LeadsTo v piece step w
  pub stood : StoodBefore (IsOnTheWay v) piece step

-- The lines, with the one that is being made, fit the limit on a section: their bytes and two for each, and three for each.
pub record AreStored (L : Bounds) (fields : FieldsView) : Type 0 where
  pub bytes : IsWithin L.section (lines_room fields.lines + making_room fields.making)
  pub count : IsWithin L.section (3 * (length fields.lines + making_count fields.making))
