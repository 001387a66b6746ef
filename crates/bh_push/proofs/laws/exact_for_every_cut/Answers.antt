use Rattle.std.proofs.Common.{[]}
use Rattle.bh_spec.proofs.Runs.{exact_place}
use Rattle.bh_push.specs.Decoders.{Rest, in_framing}
use Rattle.bh_push.proofs.Starting.{start_is}
use Rattle.bh_push.proofs.laws.exact_for_every_cut.Goals as goal

pub returns : goal.returns
returns c = λ L calls h. exact_place Rest L (in_framing []) calls start_is h
