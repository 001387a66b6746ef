use Rattle.bh_spec.proofs.Cases.{pseudo_field as proved}
use Rattle.bh_spec.proofs.a_pseudo_field_may_stand_in_a_header_section.Goals as goal

pub returns : goal.returns
returns c = proved
