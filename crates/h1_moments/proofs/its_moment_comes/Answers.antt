use Rattle.h1_moments.proofs.Lasting.{its_moment_comes as proved}
use Rattle.h1_moments.proofs.its_moment_comes.Goals as goal

pub returns : goal.returns
returns c = proved
