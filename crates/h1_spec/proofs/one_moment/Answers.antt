use Rattle.h1_spec.proofs.Coming.{one_moment as proved}
use Rattle.h1_spec.proofs.one_moment.Goals as goal

pub returns : goal.returns
returns c = proved
