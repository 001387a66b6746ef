use Rattle.bh_base.proofs.Batching.{flushed}
use Rattle.std.proofs.Common.{rules}
use Rattle.bh_base.proofs.batch.Batch.flush.Goals as goal

pub returns-clause-wrote : goal.returns-clause-wrote
returns-clause-wrote g c = λ s text h. flushed s _ _ text c.args.self.now c.hand_on.result (search rules) c.hand_on.ensures.wrote h
