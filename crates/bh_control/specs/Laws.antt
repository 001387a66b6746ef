-- The laws of control data.
use Rattle.std.specs.Prelude.{ℕ, ◌≡◌, ◌↔◌, List}
use Rattle.bh_spec.specs.declared.Part.{Part}
use Rattle.bh_spec.specs.Bounds.{Bounds, no_bounds}
use Rattle.bh_spec.specs.Messages.{Control}
use Rattle.bh_spec.specs.Texts.{Text}
use Rattle.bh_spec.specs.Pieces.{IsText, IsNext}
use Rattle.bh_spec.specs.Readings.{SaysOfAll}
use Rattle.bh_control.specs.Control.{ControlOf, IsControlText, ControlState, Rest, Leads, begun_state}

-- Bytes are the text of one control data at most, whatever the limits.
abbrev pub OneControl : Type 0
OneControl = (K L : Bounds) (c d : Control) (bytes : List ℕ) → IsText (ControlOf K c) bytes → IsText (ControlOf L d) bytes → c ≡ d

-- All longer texts that begin with the bytes have one part there, whatever the limits.
abbrev pub OneNextPart : Type 0
OneNextPart = (K L : Bounds) (bytes : List ℕ) (p q : Part) → IsNext (IsControlText K) bytes p → IsNext (IsControlText L) bytes q → p ≡ q

-- At the beginning what completes the control data is the control data itself, whatever the limits.
abbrev pub BegunIsControlData : Type 0
BegunIsControlData = (L : Bounds) (v : ControlState) (c : Control) (t : Text) → Rest L (begun_state v) c t ↔ ControlOf L c t

-- What is said of a piece from the state w is said of the bytes before it and of the piece, where these lead from the beginning of
-- control data to w.
abbrev pub SameFromTheBeginning : Type 0
SameFromTheBeginning = (v w : ControlState) (bytes piece : List ℕ) → w.limits ≡ v.limits → Leads v.limits (begun_state v) bytes w
    → SaysOfAll (ControlOf v.limits) (ControlOf no_bounds) (Rest w.limits w) (Rest no_bounds w) bytes piece
