use Rattle.h1_moments.proofs.Judging.{judged_there as proved}
use Rattle.h1_moments.proofs.judged_there.Goals as goal

pub returns : goal.returns
returns c = proved
