use Rattle.h1_moments.proofs.Judging.{finished_where_free as proved}
use Rattle.h1_moments.proofs.finished_where_free.Goals as goal

pub returns : goal.returns
returns c = proved
