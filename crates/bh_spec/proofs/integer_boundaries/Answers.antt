use Rattle.bh_spec.proofs.Cases.{integer_boundaries as proved}
use Rattle.bh_spec.proofs.integer_boundaries.Goals as goal

pub returns : goal.returns
returns c = proved
