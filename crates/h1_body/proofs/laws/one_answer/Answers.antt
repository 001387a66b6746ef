use Rattle.h1_body.proofs.OneBody as lemmas
use Rattle.h1_body.proofs.laws.one_answer.Goals as goal

pub returns : goal.returns
returns c = lemmas.one_answer
