use Rattle.h1_spec.proofs.Translated.{options_read as proved}
use Rattle.h1_spec.proofs.options_are_read.Goals as goal

pub returns : goal.returns
returns c = proved
