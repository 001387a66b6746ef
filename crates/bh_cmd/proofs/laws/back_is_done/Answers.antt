use Rattle.bh_cmd.proofs.Returning.{run_back_is_done}
use Rattle.bh_cmd.proofs.laws.back_is_done.Goals as goal

pub returns : goal.returns
returns g c = run_back_is_done _ _ _ _
