use Rattle.h1_spec.proofs.BodyCuts.{one_cause}
use Rattle.h1_spec.proofs.body_laws.one_cause.Goals as goal

pub returns : goal.returns
returns c = one_cause
