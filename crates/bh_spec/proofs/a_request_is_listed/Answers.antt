use Rattle.std.proofs.Common.{refl}
use Rattle.bh_spec.proofs.a_request_is_listed.Goals as goal

pub returns : goal.returns
returns c = refl
