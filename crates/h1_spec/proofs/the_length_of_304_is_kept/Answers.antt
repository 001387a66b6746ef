use Rattle.h1_spec.proofs.Translated.{not_modified as proved}
use Rattle.h1_spec.proofs.the_length_of_304_is_kept.Goals as goal

pub returns : goal.returns
returns c = proved
