use Rattle.h1_spec.proofs.Answering.{no_later_byte as proved}
use Rattle.h1_spec.proofs.no_later_byte.Goals as goal

pub returns : goal.returns
returns c = proved
