use Rattle.h1_moments.proofs.Judging.{refused_where_free as proved}
use Rattle.h1_moments.proofs.refused_where_free.Goals as goal

pub returns : goal.returns
returns c = proved
