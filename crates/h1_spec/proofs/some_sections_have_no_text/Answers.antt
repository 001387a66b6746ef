use Rattle.h1_spec.proofs.Translated.{sections_missing as proved}
use Rattle.h1_spec.proofs.some_sections_have_no_text.Goals as goal

pub returns : goal.returns
returns c = proved
