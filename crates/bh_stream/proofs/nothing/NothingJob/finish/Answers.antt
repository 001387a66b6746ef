use Rattle.bh_stream.proofs.Silent.{sent_no_rest}
use Rattle.bh_stream.proofs.nothing.NothingJob.finish.Goals as goal

pub returns : goal.returns
returns g c = λ omitted padding. sent_no_rest g.S.Sink.write_step c.args._sink.now
