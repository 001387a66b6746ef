use Rattle.h1_read.proofs.AtStart.{ready_at_start as proved}
use Rattle.h1_read.proofs.laws.ready_at_start.Goals as goal

pub returns : goal.returns
returns c = proved
