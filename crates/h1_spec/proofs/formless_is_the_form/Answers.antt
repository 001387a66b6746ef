use Rattle.h1_spec.proofs.Ordering.{formless_is_the_form as proved}
use Rattle.h1_spec.proofs.formless_is_the_form.Goals as goal

pub returns : goal.returns
returns c = proved
