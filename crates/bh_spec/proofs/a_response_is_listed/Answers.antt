use Rattle.std.proofs.Common.{refl}
use Rattle.std.specs.Fmt.{digits}
use Rattle.bh_spec.proofs.a_response_is_listed.Goals as goal

pub returns : goal.returns
unfolding digits
returns c = refl
