use Rattle.h1_spec.proofs.Translated.{chunks_translated as proved}
use Rattle.h1_spec.proofs.chunks_are_translated.Goals as goal

pub returns : goal.returns
returns c = proved
