-- What is said from a state is said of the bytes since the control data began.
use Rattle.std.proofs.Common.{ℕ, List, [], sym, subst}
use Rattle.bh_spec.specs.Bounds.{Bounds, no_bounds}
use Rattle.bh_spec.specs.Residuals.{IsResidual}
use Rattle.bh_spec.specs.Readings.{SaysOfAll}
use Rattle.bh_spec.proofs.Residuals.{residual_on}
use Rattle.bh_spec.proofs.Readings.{says_of_all}
use Rattle.bh_control.specs.Control.{ControlOf, ControlState, Rest, begun_state}
use Rattle.bh_control.specs.Laws.{BegunIsControlData, SameFromTheBeginning}
use Rattle.bh_control.proofs.Following.{start_is, start_left}

pub begun_is_control_data : BegunIsControlData
begun_is_control_data L v c t = start_is L c t

left_of : (K : Bounds) (v w : ControlState) (bytes : List ℕ) → IsResidual (Rest K (begun_state v)) bytes (λ c. c) (Rest K w) → IsResidual (ControlOf K) bytes (λ c. c) (Rest K w)
left_of K v w bytes r = residual_on (ControlOf K) [] (λ c. c) (Rest K (begun_state v)) bytes (λ c. c) (Rest K w) (start_left K) r

pub same_from_the_beginning : SameFromTheBeginning
same_from_the_beginning v w bytes piece e h =
    subst (λ (L : Bounds). SaysOfAll (ControlOf v.limits) (ControlOf no_bounds) (Rest L w) (Rest no_bounds w) bytes piece) (sym e)
    (says_of_all (ControlOf v.limits) (ControlOf no_bounds) (Rest v.limits w) (Rest no_bounds w) bytes piece
    (record { within = left_of v.limits v w bytes h.within; anyway = left_of no_bounds v w bytes h.anyway }))
