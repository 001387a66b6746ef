-- Why reading stops inside some text.
use Rattle.std.specs.Prelude.{ℕ, ◌<◌, ◌+◌, ◌^◌, List, []}
use Rattle.bh_spec.specs.declared.Part.{Part}
use Rattle.bh_spec.specs.declared.Refusal.{Refusal}
use Rattle.bh_spec.specs.declared.Refusal.TheVariants as refusals
use Rattle.bh_spec.specs.Bounds.{Bounds, no_bounds}
use Rattle.bh_spec.specs.Texts.{Text}
use Rattle.bh_spec.specs.Pieces.{SomeOf, IsText, IsNext, GoesOn, IsDead, IsLimit}
use Rattle.bh_decode.specs.declared.stop.Stop.{Stop}
use Rattle.bh_decode.specs.declared.stop.Stop.TheVariants.{Dead, Limit, Ended}
use Rattle.bh_decode.specs.declared.fault.Fault.{Fault}
use Rattle.bh_decode.specs.declared.fault.Fault.TheVariants as faults

-- The bytes end inside a text.
pub record IsCut (R : Text → Type 0) (bytes : List ℕ) (part : Part) : Type 0 where
  pub next : IsNext R bytes part
  pub unfinished : IsText R bytes → ⊥

-- what a stop says of bytes, with the texts within the limits and those without
abbrev pub Stops : (Text → Type 0) → (Text → Type 0) → List ℕ → Stop → Type 0
Stops R S bytes (Dead at part) = IsDead R S [] bytes at part
Stops R S bytes (Limit at part) = IsLimit R S [] bytes at part
Stops R S bytes (Ended part) = IsCut R bytes part

-- the same of the texts of a kind, within the limits and without
abbrev pub StopsFor : (Bounds → Text → Type 0) → Bounds → List ℕ → Stop → Type 0
StopsFor X L bytes = Stops (X L) (X no_bounds) bytes

-- the refusal of an input of so many bytes
abbrev pub refusal_of : ℕ → Stop → Refusal
refusal_of long (Dead at part) = refusals.Dead at part
refusal_of long (Limit at part) = refusals.Limit at part
refusal_of long (Ended part) = refusals.Ended long part

-- the stop, where so many bytes stand before those that it counts
abbrev pub stop_behind : ℕ → Stop → Stop
stop_behind before (Dead at part) = Dead (before + at) part
stop_behind before (Limit at part) = Limit (before + at) part
stop_behind before (Ended part) = Ended part

-- the bytes end inside a thing, none of which is whole among them
pub record IsCutThing (R : Text → Type 0) (bytes : List ℕ) (part : Part) : Type 0 where
  pub on : GoesOn R [] bytes
  pub next : IsNext R bytes part

-- what a stop says where one thing is read, with those within the limits and those without
abbrev pub StopsThing : (Text → Type 0) → (Text → Type 0) → List ℕ → Stop → Type 0
StopsThing R S bytes (Dead at part) = IsDead R S [] bytes at part
StopsThing R S bytes (Limit at part) = IsLimit R S [] bytes at part
StopsThing R S bytes (Ended part) = IsCutThing R bytes part

-- the same where some one of several things is read
abbrev pub StopsAt : {I : Type 0} → (I → Text → Type 0) → (I → Text → Type 0) → List ℕ → Stop → Type 0
StopsAt A B bytes = StopsThing (SomeOf A) (SomeOf B) bytes

-- the stop lies within bytes that may stand behind so many
abbrev pub IsStopWithin : ℕ → Stop → Type 0
IsStopWithin before (Dead at part) = before + at < 2 ^ 63
IsStopWithin before (Limit at part) = before + at < 2 ^ 63
IsStopWithin before (Ended part) = Unit {0}

-- the statement holds of the stop, where it was no want of memory
abbrev pub AtStop : (Stop → Type 0) → Fault → Type 0
AtStop P (faults.Stop stop) = P stop
AtStop P faults.NoMemory = Unit {0}

-- a stop of the texts of a kind, where it was no want of memory
abbrev pub FailsFor : (Bounds → Text → Type 0) → Bounds → List ℕ → Fault → Type 0
FailsFor X L bytes = AtStop (StopsFor X L bytes)

abbrev pub fault_behind : ℕ → Fault → Fault
fault_behind before (faults.Stop stop) = faults.Stop (stop_behind before stop)
fault_behind before faults.NoMemory = faults.NoMemory
