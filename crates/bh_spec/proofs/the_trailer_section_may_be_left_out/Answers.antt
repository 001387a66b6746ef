use Rattle.bh_spec.proofs.Cases.{trailers_left_out as proved}
use Rattle.bh_spec.proofs.the_trailer_section_may_be_left_out.Goals as goal

pub returns : goal.returns
returns c = proved
