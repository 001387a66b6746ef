-- A section that stands at the front of bytes, as its reader answers.
use Rattle.std.proofs.Common.{◌≡◌, ℕ, List, [], refl, sym, ap, subst, ◌∙◌}
use Rattle.bh_spec.specs.declared.Part.{Part}
use Rattle.bh_spec.specs.declared.Form.{Form}
use Rattle.bh_spec.specs.Bounds.{no_bounds}
use Rattle.bh_spec.specs.Pieces.{IsNext}
use Rattle.bh_spec.specs.Readings.{SaysOfAll}
use Rattle.bh_spec.proofs.Pieces.{next_unfinished}
use Rattle.bh_model.specs.declared.field.Place.{Place}
use Rattle.bh_fields.specs.Sections.{SectionOf, IsSectionText}
use Rattle.bh_fields.specs.Middle.{SectionView, begun_view, Rest}
use Rattle.bh_fields.specs.Views.{Leads}
use Rattle.bh_fields.specs.Readers.{IsWanted}
use Rattle.bh_fields.proofs.Exactly.{leads_here}
use Rattle.bh_fields.proofs.History.{same_from_the_beginning}
use Rattle.bh_fields.proofs.Tracking.{sections_once}
use Rattle.bh_decode.specs.Stops.{IsCutThing}

-- the reader that began reads the section itself; and so it does behind bytes
pub section_begun : (form : Form) (place : Place) (old v : SectionView) (piece : List ℕ) → v ≡ begun_view form place old
    → SaysOfAll (SectionOf old.limits form place) (SectionOf no_bounds form place) (Rest v.limits v) (Rest no_bounds v) [] piece
section_begun form place old v piece e =
    subst (λ (x : SectionView). SaysOfAll (SectionOf old.limits form place) (SectionOf no_bounds form place) (Rest x.limits x) (Rest no_bounds x) [] piece) (sym e)
    (same_from_the_beginning form place old (begun_view form place old) [] piece refl (leads_here (begun_view form place old)))

pub section_behind : (form : Form) (place : Place) (old v w : SectionView) (bytes : List ℕ) → v ≡ begun_view form place old → w.limits ≡ v.limits → Leads v bytes w
    → SaysOfAll (SectionOf old.limits form place) (SectionOf no_bounds form place) (Rest w.limits w) (Rest no_bounds w) bytes []
section_behind form place old v w bytes e l leads =
    same_from_the_beginning form place old w bytes [] (l ∙ ap (λ (x : SectionView). x.limits) e) (subst (λ (x : SectionView). Leads x bytes w) e leads)

pub section_cut : (form : Form) (place : Place) (old v w : SectionView) (piece : List ℕ) (part : Part) → v ≡ begun_view form place old → w.limits ≡ v.limits → Leads v piece w
    → IsNext (IsWanted w) [] part → IsCutThing (IsSectionText old.limits form place) piece part
section_cut form place old v w piece part e l leads h =
    let next = ((section_behind form place old v w piece e l leads).next part).1 h in
    record { on = next_unfinished (IsSectionText old.limits form place) (sections_once old.limits old.limits form place) [] piece part next; next = next }
