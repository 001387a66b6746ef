use Rattle.h1_spec.proofs.OneMark.{one_marking as proved}
use Rattle.h1_spec.proofs.one_marking.Goals as goal

pub returns : goal.returns
returns c = proved
