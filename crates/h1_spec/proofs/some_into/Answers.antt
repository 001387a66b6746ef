use Rattle.h1_spec.proofs.SomeInto.{some_into as proved}
use Rattle.h1_spec.proofs.some_into.Goals as goal

pub returns : goal.returns
returns c = proved
