use Rattle.bh_spec.proofs.Missing.{header_section_missing as proved}
use Rattle.bh_spec.proofs.a_header_section_may_not_be_left_out.Goals as goal

pub returns : goal.returns
returns c = proved
