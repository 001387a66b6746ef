use Rattle.bh_spec.proofs.Cases.{framing_in_four_bytes as proved}
use Rattle.bh_spec.proofs.a_framing_number_may_have_four_bytes.Goals as goal

pub returns : goal.returns
returns c = proved
