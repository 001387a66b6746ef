use Rattle.h1_spec.proofs.Answering.{one_into as proved}
use Rattle.h1_spec.proofs.one_into.Goals as goal

pub returns : goal.returns
returns c = proved
