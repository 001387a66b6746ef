use Rattle.h1_spec.proofs.SomeAnswer.{some_from as proved}
use Rattle.h1_spec.proofs.some_from.Goals as goal

pub returns : goal.returns
returns c = proved
