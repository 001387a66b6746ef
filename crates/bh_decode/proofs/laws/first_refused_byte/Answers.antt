use Rattle.bh_decode.proofs.Answered.{first_refused_byte as proved}
use Rattle.bh_decode.proofs.laws.first_refused_byte.Goals as goal

pub returns : goal.returns
returns c = proved
