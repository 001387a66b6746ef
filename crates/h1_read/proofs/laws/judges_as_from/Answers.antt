use Rattle.h1_read.proofs.Judging.{judges_as_from as proved}
use Rattle.h1_read.proofs.laws.judges_as_from.Goals as goal

pub returns : goal.returns
returns c = proved
