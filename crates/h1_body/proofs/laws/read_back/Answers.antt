use Rattle.h1_body.proofs.OneBody as lemmas
use Rattle.h1_body.proofs.laws.read_back.Goals as goal

pub returns : goal.returns
returns c = lemmas.read_back
