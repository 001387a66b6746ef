use Rattle.bh_control.proofs.History.{begun_is_control_data}
use Rattle.bh_control.proofs.laws.begun_is_control_data.Goals as goal

pub returns : goal.returns
returns c = begun_is_control_data
