-- What is said from a state is said of the bytes since the section began.
use Rattle.std.proofs.Common.{ℕ, List, [], ◌++◌, sym, subst, unwrap_or}
use Rattle.bh_spec.specs.declared.Form.{Form}
use Rattle.bh_spec.specs.Bounds.{Bounds, no_bounds}
use Rattle.bh_spec.specs.Residuals.{IsResidual}
use Rattle.bh_spec.specs.Readings.{SaysOfAll}
use Rattle.bh_spec.proofs.Readings.{says_of_all}
use Rattle.bh_model.specs.declared.field.Place.{Place}
use Rattle.bh_fields.specs.Sections.{SectionOf}
use Rattle.bh_fields.specs.Middle.{SectionView, Rest, begun_view}
use Rattle.bh_fields.specs.Views.{Leads}
use Rattle.bh_fields.specs.Laws.{BegunIsASection, SameFromTheBeginning}
use Rattle.bh_fields.proofs.Beginning.{start_to, start_from}

pub begun_is_a_section : BegunIsASection
begun_is_a_section L form place v fields t = (
  start_from L form place (unwrap_or v.limits.section 0) (record { name = []; value = [] }) fields t,
  start_to L form place (unwrap_or v.limits.section 0) (record { name = []; value = [] }) fields t,
)

-- what is left of the section behind the bytes
left_of : (L : Bounds) (form : Form) (place : Place) (v w : SectionView) (bytes : List ℕ) → Leads (begun_view form place v) bytes w
    → IsResidual (SectionOf L form place) bytes (λ fields. fields) (Rest L w)
left_of L form place v w bytes h = record {
  text = (h L).text;
  same = (h L).same;
  forth = λ fields u more r e. (h L).forth fields u more ((begun_is_a_section L form place v fields u).1 r) e;
  back = λ fields t r. (begun_is_a_section L form place v fields ((h L).text ++ t)).0 ((h L).back fields t r);
}

pub same_from_the_beginning : SameFromTheBeginning
same_from_the_beginning form place v w bytes piece e h =
    subst (λ (L : Bounds). SaysOfAll (SectionOf v.limits form place) (SectionOf no_bounds form place) (Rest L w) (Rest no_bounds w) bytes piece) (sym e)
    (says_of_all (SectionOf v.limits form place) (SectionOf no_bounds form place) (Rest v.limits w) (Rest no_bounds w) bytes piece
    (record { within = left_of v.limits form place v w bytes h; anyway = left_of no_bounds form place v w bytes h }))
