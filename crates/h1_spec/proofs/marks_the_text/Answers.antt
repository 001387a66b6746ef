use Rattle.h1_spec.proofs.MarkedTexts.{marks_the_text as proved}
use Rattle.h1_spec.proofs.marks_the_text.Goals as goal

pub returns : goal.returns
returns c = proved
