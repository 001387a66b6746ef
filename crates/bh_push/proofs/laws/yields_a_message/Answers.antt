use Rattle.std.proofs.Common.{[]}
use Rattle.bh_spec.proofs.Runs.{items_of_a_message}
use Rattle.bh_push.specs.Decoders.{Rest, in_framing}
use Rattle.bh_push.proofs.Starting.{start_is}
use Rattle.bh_push.proofs.laws.yields_a_message.Goals as goal

pub returns : goal.returns
returns c = λ L calls h. items_of_a_message Rest L (in_framing []) calls start_is h
