use Rattle.h1_spec.proofs.LaterBytes.{stays_broken as proved}
use Rattle.h1_spec.proofs.stays_broken.Goals as goal

pub returns : goal.returns
returns c = proved
