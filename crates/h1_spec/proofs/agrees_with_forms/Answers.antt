use Rattle.h1_spec.proofs.Agreeing.{agrees}
use Rattle.h1_spec.proofs.agrees_with_forms.Goals as goal

pub returns : goal.returns
returns c = agrees
