use Rattle.h1_spec.proofs.BodyFronts as lemmas
use Rattle.h1_spec.proofs.body_laws.none_behind_body.Goals as goal

pub returns : goal.returns
returns c = lemmas.none_behind_body
