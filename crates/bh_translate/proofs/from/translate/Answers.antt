use Rattle.h1_read.proofs.AtStart.{ready_at_start}
use Rattle.bh_translate.proofs.FromStarting.{from_fits, from_at}
use Rattle.bh_translate.proofs.from.translate.Goals as goal

pub stream-requires-clause-ready : goal.stream-requires-clause-ready
stream-requires-clause-ready g c = ready_at_start c.args.limits.now c.args.scheme c.args.to_head c.args.reading.now c.requires.limits c.requires.reading

pub stream-requires-clause-fits : goal.stream-requires-clause-fits
stream-requires-clause-fits g c = from_fits c.args.limits.now c.requires.limits c.args.scheme c.args.to_head c.args.reading.now c.requires.reading c.args.writer.now c.requires.writer

pub returns : goal.returns
returns g c = from_at c.args.limits.now c.requires.limits c.args.scheme c.args.to_head c.args.reading.now c.requires.reading g.met.P.Source.read_law g.met.P.Source.ended_law g.met.P.Sink.write_law
    g.met.P.Port.read_leaves g.met.P.Port.write_leaves c.args.writer.now c.requires.writer c.args.port.now c.stream.new.port c.stream.result c.stream.ensures.streams
