use Rattle.h1_spec.proofs.Translated.{hello_translated as proved}
use Rattle.h1_spec.proofs.the_first_example_is_translated.Goals as goal

pub returns : goal.returns
returns c = proved
