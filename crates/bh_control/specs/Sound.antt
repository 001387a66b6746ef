-- What is known of what a reader stores.
use Rattle.std.specs.Prelude.{ℕ, ◌≡◌, ◌≤◌, Some}
use Rattle.bh_spec.specs.Bounds.{Bounds}
use Rattle.bh_control.specs.declared.progress.Progress.{Progress}
use Rattle.bh_control.specs.declared.progress.Phase.{Phase}
use Rattle.bh_control.specs.declared.progress.Phase.TheVariants.{Idle, Length, Bytes, Whole, Refused}
use Rattle.bh_spec.specs.Readings.{Stage, idle, reading, whole, refused}
use Rattle.bh_control.specs.Control.{ControlState, IsLeft}
use Rattle.bh_control.specs.Rules.{IsOpenAt}
use Rattle.bh_control.specs.Stored.{control_in, HasRoom}
use Rattle.bh_control.specs.Reading.{IsReading}

abbrev pub stage_of : Phase → Stage
stage_of Idle = idle
stage_of (Length place) = reading
stage_of (Bytes place left) = reading
stage_of Whole = whole
stage_of Refused = refused

-- what a contract sees
abbrev pub state_at : Bounds → Phase → Progress → ControlState
state_at L phase p = record { limits = L; stage = stage_of phase; phase = phase; begun = p.partial; control = control_in p.strings }

pub record Knows (L : Bounds) (most : ℕ) (phase : Phase) (p : Progress) : Type 0 where
  pub opens : IsOpenAt phase most (record { phase = phase; begun = p.partial; control = control_in p.strings })
  pub left : IsLeft L (state_at L phase p)

pub record IsSound (limits : Bounds) (p : Progress) : Type 0 where
  pub limit : limits.part ≡ Some p.most
  pub some : 1 ≤ p.most
  pub room : HasRoom p.most p.strings
  pub known : IsReading p.phase → Knows limits p.most p.phase p
