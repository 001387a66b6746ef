use Rattle.bh_spec.proofs.Cases.{tail_left_out as proved}
use Rattle.bh_spec.proofs.the_tail_may_be_left_out.Goals as goal

pub returns : goal.returns
returns c = proved
