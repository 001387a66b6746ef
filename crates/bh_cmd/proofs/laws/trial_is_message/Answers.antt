use Rattle.bh_cmd.proofs.TrialText.{trial_is_message}
use Rattle.bh_cmd.proofs.laws.trial_is_message.Goals as goal

pub returns : goal.returns
returns c = trial_is_message
