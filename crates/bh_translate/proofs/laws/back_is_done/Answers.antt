use Rattle.bh_translate.proofs.There.{back_is_done}
use Rattle.bh_translate.proofs.laws.back_is_done.Goals as goal

pub returns : goal.returns
returns c = back_is_done
