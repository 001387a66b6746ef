use Rattle.h1_spec.proofs.BodyFronts as lemmas
use Rattle.h1_spec.proofs.body_laws.one_in_front.Goals as goal

pub returns : goal.returns
returns c = lemmas.one_in_front
