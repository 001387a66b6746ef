use Rattle.bh_decode.proofs.Answered.{one_answer as proved}
use Rattle.bh_decode.proofs.laws.one_answer.Goals as goal

pub returns : goal.returns
returns c = proved
