use Rattle.h1_moments.proofs.Judging.{none_is_judged_yet as proved}
use Rattle.h1_moments.proofs.none_is_judged_yet.Goals as goal

pub returns : goal.returns
returns c = proved
