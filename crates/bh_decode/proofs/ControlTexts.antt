-- Control data that stands at the front of bytes, as its reader answers.
use Rattle.std.proofs.Common.{◌≡◌, ℕ, List, [], refl, sym, ap, subst, ◌∙◌}
use Rattle.bh_spec.specs.declared.Part.{Part}
use Rattle.bh_spec.specs.Bounds.{no_bounds}
use Rattle.bh_spec.specs.Pieces.{IsNext}
use Rattle.bh_spec.specs.Readings.{SaysOfAll}
use Rattle.bh_spec.proofs.Pieces.{next_unfinished}
use Rattle.bh_control.specs.Control.{ControlOf, IsControlText, ControlState, Rest, IsWanted, Leads, begun_state}
use Rattle.bh_control.proofs.Controls.{leads_here}
use Rattle.bh_control.proofs.Following.{controls_once}
use Rattle.bh_control.proofs.History.{same_from_the_beginning}
use Rattle.bh_decode.specs.Stops.{IsCutThing}

-- the reader that began reads the control data itself; and so it does behind bytes
pub control_begun : (old v : ControlState) (piece : List ℕ) → v ≡ begun_state old → SaysOfAll (ControlOf old.limits) (ControlOf no_bounds) (Rest v.limits v) (Rest no_bounds v) [] piece
control_begun old v piece e =
    subst (λ (x : ControlState). SaysOfAll (ControlOf old.limits) (ControlOf no_bounds) (Rest x.limits x) (Rest no_bounds x) [] piece) (sym e)
    (same_from_the_beginning old (begun_state old) [] piece refl (leads_here old.limits (begun_state old)))

pub control_behind : (old v w : ControlState) (bytes : List ℕ) → v ≡ begun_state old → w.limits ≡ v.limits → Leads v.limits v bytes w
    → SaysOfAll (ControlOf old.limits) (ControlOf no_bounds) (Rest w.limits w) (Rest no_bounds w) bytes []
control_behind old v w bytes e l leads =
    same_from_the_beginning old w bytes [] (l ∙ ap (λ (x : ControlState). x.limits) e) (subst (λ (x : ControlState). Leads x.limits x bytes w) e leads)

pub control_cut : (old v w : ControlState) (piece : List ℕ) (part : Part) → v ≡ begun_state old → w.limits ≡ v.limits → Leads v.limits v piece w → IsNext (IsWanted w) [] part
    → IsCutThing (IsControlText old.limits) piece part
control_cut old v w piece part e l leads h =
    let next = ((control_behind old v w piece e l leads).next part).1 h in
    record { on = next_unfinished (IsControlText old.limits) (controls_once old.limits old.limits) [] piece part next; next = next }
