use Rattle.h1_spec.proofs.Coming.{judged_is_viable as proved}
use Rattle.h1_spec.proofs.judged_is_viable.Goals as goal

pub returns : goal.returns
returns c = proved
