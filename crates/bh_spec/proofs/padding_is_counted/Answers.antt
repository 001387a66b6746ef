use Rattle.bh_spec.proofs.Cases.{padding_counted as proved}
use Rattle.bh_spec.proofs.padding_is_counted.Goals as goal

pub returns : goal.returns
returns c = proved
