use Rattle.std.proofs.Common.{[], ◌∷◌}
use Rattle.bh_stream.proofs.Silent.{sent_nothing}
use Rattle.bh_stream.proofs.nothing.NothingJob.event.Goals as goal

pub returns : goal.returns
returns g c = λ item shown. sent_nothing g.S.Sink.write_step (item ∷ []) c.args._sink.now
