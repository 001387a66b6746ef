use Rattle.h1_spec.proofs.BodyCuts.{none_where_whole}
use Rattle.h1_spec.proofs.body_laws.none_where_whole.Goals as goal

pub returns : goal.returns
returns c = none_where_whole
