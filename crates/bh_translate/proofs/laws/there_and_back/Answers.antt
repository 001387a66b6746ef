use Rattle.bh_translate.proofs.There.{there_and_back}
use Rattle.bh_translate.proofs.laws.there_and_back.Goals as goal

pub returns : goal.returns
returns c = there_and_back
