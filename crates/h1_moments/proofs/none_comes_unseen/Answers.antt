use Rattle.h1_moments.proofs.Unseen.{none_comes_unseen as proved}
use Rattle.h1_moments.proofs.none_comes_unseen.Goals as goal

pub returns : goal.returns
returns c = proved
