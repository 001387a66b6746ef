use Rattle.bh_spec.proofs.Cases.{integer_vectors as proved}
use Rattle.bh_spec.proofs.integer_vectors.Goals as goal

pub returns : goal.returns
returns c = proved
