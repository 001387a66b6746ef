use Rattle.bh_spec.proofs.Framing.{framing_too_great as proved}
use Rattle.bh_spec.proofs.a_framing_number_over_255_is_dead.Goals as goal

pub returns : goal.returns
returns c = proved
