use Rattle.h1_spec.proofs.BodyFronts as lemmas
use Rattle.h1_spec.proofs.body_laws.written_is_body.Goals as goal

pub returns : goal.returns
returns c = lemmas.written_is_body
