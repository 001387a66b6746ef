-- What a byte makes of a section that is being read.
use Rattle.std.specs.Prelude.{ℕ, ◌≡◌, List, [], ◌∷◌}
use Rattle.bh_spec.specs.Bounds.{Bounds, no_bounds}
use Rattle.bh_spec.specs.Messages.{Field}
use Rattle.bh_spec.specs.Texts.{Text}
use Rattle.bh_fields.specs.declared.walk.Phase.{Phase}
use Rattle.bh_fields.specs.declared.walk.Phase.TheVariants as phases
use Rattle.bh_spec.specs.declared.Judged.{Judged}
use Rattle.bh_spec.specs.declared.Judged.TheVariants as judged
use Rattle.bh_fields.specs.Bytewise.{Steps, AreSame, HasNone, HasSome}
use Rattle.bh_fields.specs.Phases.{part_at}
use Rattle.bh_fields.specs.Points.{Point, RestOf, IsSized, IsSame}
use Rattle.bh_fields.specs.States.{WholeState, ReadingAt}

-- what is known behind bytes that were taken, and behind which R followed
abbrev pub Moves : Judged → (Bounds → List Field → Text → Type 0) → Point → Phase → Point → Type 0
Moves judged.More R p phase q = IsSized q × ReadingAt phase q × IsSame p q × AreSame R (RestOf phase q)
Moves judged.Whole R p phase q = IsSized q × ((phase ≡ phases.Whole) × WholeState q) × IsSame p q × AreSame R (RestOf phases.Whole q)
Moves judged.Limit R p phase q = ⊥
Moves judged.Dead R p phase q = ⊥

-- what a byte makes of it in a phase
abbrev pub IsStep : Judged → Phase → Point → ℕ → Phase → Point → Type 0
IsStep judged.More now p byte phase q = IsSized q × ReadingAt phase q × IsSame p q
    × Steps (RestOf now p) (RestOf phase q) (part_at now) byte
IsStep judged.Whole now p byte phase q = IsSized q × ((phase ≡ phases.Whole) × WholeState q) × IsSame p q
    × Steps (RestOf now p) (RestOf phases.Whole q) (part_at now) byte
IsStep judged.Limit now p byte phase q = IsSized q × IsSame p q × HasNone (RestOf now p) p.limits (part_at now) byte
    × HasSome (RestOf now p) no_bounds (part_at now) byte
IsStep judged.Dead now p byte phase q = IsSized q × IsSame p q × HasNone (RestOf now p) p.limits (part_at now) byte
    × HasNone (RestOf now p) no_bounds (part_at now) byte

-- what bytes make of it, each of which is a step that goes on
abbrev pub IsRun : Phase → Point → List ℕ → Phase → Point → Type 0
IsRun now p [] phase q = (phase ≡ now) × (q ≡ p)
IsRun now p (byte ∷ rest) phase q =
    (middle : Phase × Point) × IsStep judged.More now p byte middle.0 middle.1 × IsRun middle.0 middle.1 rest phase q
