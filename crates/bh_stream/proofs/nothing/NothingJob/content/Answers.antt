use Rattle.std.proofs.Common.{map}
use Rattle.bh_spec.specs.Items.{content_byte}
use Rattle.bh_stream.proofs.Silent.{sent_nothing}
use Rattle.bh_stream.proofs.nothing.NothingJob.content.Goals as goal

pub returns : goal.returns
returns g c = sent_nothing g.S.Sink.write_step (map content_byte c.args._bytes.now) c.args._sink.now
