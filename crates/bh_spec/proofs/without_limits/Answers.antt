use Rattle.bh_spec.proofs.Limits.{without_limits as proved}
use Rattle.bh_spec.proofs.without_limits.Goals as goal

pub returns : goal.returns
returns c = proved
