use Rattle.bh_cmd.proofs.Returning.{runs_there_and_back}
use Rattle.bh_cmd.proofs.laws.there_and_back.Goals as goal

pub returns : goal.returns
returns g c = runs_there_and_back _ _ _ _
