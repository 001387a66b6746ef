use Rattle.bh_decode.proofs.Existing.{some_answer as proved}
use Rattle.bh_decode.proofs.laws.some_answer.Goals as goal

pub returns : goal.returns
returns c = proved
