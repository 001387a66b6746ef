use Rattle.h1_spec.proofs.MarkedTexts.{there_marked as proved}
use Rattle.h1_spec.proofs.there_marked.Goals as goal

pub returns : goal.returns
returns c = proved
