use Rattle.h1_spec.proofs.Unjudging.{free_where_formed as proved}
use Rattle.h1_spec.proofs.free_where_formed.Goals as goal

pub returns : goal.returns
returns c = proved
