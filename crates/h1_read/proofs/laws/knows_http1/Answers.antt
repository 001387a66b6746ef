use Rattle.h1_read.proofs.AtStart.{knows_http1 as proved}
use Rattle.h1_read.proofs.laws.knows_http1.Goals as goal

pub returns : goal.returns
returns c = proved
