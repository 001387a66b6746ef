use Rattle.bh_spec.proofs.Cases.{input_too_long as proved}
use Rattle.bh_spec.proofs.an_input_beyond_its_limit_is_too_long.Goals as goal

pub returns : goal.returns
returns c = proved
