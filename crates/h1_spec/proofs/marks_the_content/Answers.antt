use Rattle.h1_spec.proofs.Marking.{marks_the_content as proved}
use Rattle.h1_spec.proofs.marks_the_content.Goals as goal

pub returns : goal.returns
returns c = proved
