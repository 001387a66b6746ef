use Rattle.bh_spec.proofs.Cases.{interim_response as proved}
use Rattle.bh_spec.proofs.an_interim_response_is_read.Goals as goal

pub returns : goal.returns
returns c = proved
