use Rattle.h1_spec.proofs.Translated.{interims_translated as proved}
use Rattle.h1_spec.proofs.an_early_response_is_translated.Goals as goal

pub returns : goal.returns
returns c = proved
