use Rattle.h1_spec.proofs.Cleaned.{trailers_twice as proved}
use Rattle.h1_spec.proofs.clean_trailers_twice.Goals as goal

pub returns : goal.returns
returns c = proved
