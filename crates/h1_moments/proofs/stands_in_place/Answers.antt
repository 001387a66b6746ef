use Rattle.h1_moments.proofs.Placing.{stands_in_place as proved}
use Rattle.h1_moments.proofs.stands_in_place.Goals as goal

pub returns : goal.returns
returns c = proved
