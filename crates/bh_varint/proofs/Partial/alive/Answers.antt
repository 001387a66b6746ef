use Rattle.std.proofs.Common.{IsTrue}
use Rattle.bh_varint.proofs.Growing.{reads_test}
use Rattle.bh_varint.proofs.Partial.alive.Goals as goal

pub returns : goal.returns
returns c = reads_test _ _ c.with.result (IsTrue c.is_alive.result) c.with.ensures.reads c.is_alive.ensures
