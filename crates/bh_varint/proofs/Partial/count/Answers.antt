use Rattle.std.proofs.Common.{subst}
use Rattle.bh_varint.specs.Step.{IsUnfinished}
use Rattle.bh_varint.proofs.Growing.{short_unfinished}
use Rattle.bh_varint.proofs.Partial.count.Goals as goal

pub returns-in-None-clause-unfinished : goal.returns-in-None-clause-unfinished
returns-in-None-clause-unfinished c = subst IsUnfinished c.self.view_is (short_unfinished _ c.self.invariant)

pub returns-in-Some-clause-unfinished : goal.returns-in-Some-clause-unfinished
returns-in-Some-clause-unfinished c = subst IsUnfinished c.self.view_is (short_unfinished _ c.self.invariant)
