use Rattle.h1_spec.proofs.BodyStarts.{starts}
use Rattle.h1_spec.proofs.body_laws.starts_with_a_body.Goals as goal

pub returns : goal.returns
returns c = starts
