use Rattle.h1_moments.proofs.Judging.{missed_where_free as proved}
use Rattle.h1_moments.proofs.missed_where_free.Goals as goal

pub returns : goal.returns
returns c = proved
