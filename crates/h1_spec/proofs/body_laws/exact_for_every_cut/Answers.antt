use Rattle.h1_spec.proofs.BodyCuts.{exact}
use Rattle.h1_spec.proofs.body_laws.exact_for_every_cut.Goals as goal

pub returns : goal.returns
returns c = exact
