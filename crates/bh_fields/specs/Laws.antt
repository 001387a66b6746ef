-- The laws of sections as a whole.
use Rattle.std.specs.Prelude.{ℕ, ◌≡◌, ◌↔◌, List}
use Rattle.bh_spec.specs.declared.Form.{Form}
use Rattle.bh_spec.specs.declared.Part.{Part}
use Rattle.bh_spec.specs.Bounds.{Bounds, no_bounds}
use Rattle.bh_spec.specs.Messages.{Field}
use Rattle.bh_spec.specs.Texts.{Text}
use Rattle.bh_spec.specs.Pieces.{IsText, IsNext}
use Rattle.bh_spec.specs.Readings.{SaysOfAll}
use Rattle.bh_model.specs.declared.field.Place.{Place}
use Rattle.bh_fields.specs.Sections.{SectionOf, IsSectionText}
use Rattle.bh_fields.specs.Middle.{SectionView, Rest, begun_view}
use Rattle.bh_fields.specs.Views.{Leads}

-- Bytes are the section of one list of fields at most, whatever the limits.
abbrev pub OneSection : Type 0
OneSection = (K L : Bounds) (form : Form) (place : Place) (fields others : List Field) (bytes : List ℕ)
    → IsText (SectionOf K form place fields) bytes → IsText (SectionOf L form place others) bytes → fields ≡ others

-- All longer sections that begin with the bytes have one part there, whatever the limits.
abbrev pub OneNextPart : Type 0
OneNextPart = (K L : Bounds) (form : Form) (place : Place) (bytes : List ℕ) (p q : Part)
    → IsNext (IsSectionText K form place) bytes p → IsNext (IsSectionText L form place) bytes q → p ≡ q

-- At the beginning of a section what completes it is the section itself, whatever the limits.
abbrev pub BegunIsASection : Type 0
BegunIsASection = (L : Bounds) (form : Form) (place : Place) (v : SectionView) (fields : List Field) (t : Text)
    → Rest L (begun_view form place v) fields t ↔ SectionOf L form place fields t

-- What is said of a piece from the state w is said of the bytes before it and of the piece, where these lead from the beginning of a
-- section to w.
abbrev pub SameFromTheBeginning : Type 0
SameFromTheBeginning = (form : Form) (place : Place) (v w : SectionView) (bytes piece : List ℕ) → w.limits ≡ v.limits
    → Leads (begun_view form place v) bytes w
    → SaysOfAll (SectionOf v.limits form place) (SectionOf no_bounds form place) (Rest w.limits w) (Rest no_bounds w) bytes piece
