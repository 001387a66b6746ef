use Rattle.h1_judge.proofs.Starting.{ready_here}
use Rattle.h1_text.proofs.Comings.{comes_cleaned}
use Rattle.bh_translate.proofs.IntoFacts.{into_at}
use Rattle.bh_translate.proofs.into.translate.Goals as goal

pub stream-requires-clause-ready : goal.stream-requires-clause-ready
stream-requires-clause-ready g c = ready_here c.args.limits.now c.requires.limits c.args.to_head c.args.judged.now c.requires.judged

pub stream-requires-clause-fits : goal.stream-requires-clause-fits
stream-requires-clause-fits g c = comes_cleaned c.args.limits.now c.requires.limits c.args.to_head c.args.judged.now c.requires.judged c.args.writer.now c.requires.writer

pub returns : goal.returns
returns g c = into_at c.args.limits.now c.requires.limits c.args.to_head c.args.judged.now c.requires.judged g.met.P.Source.read_law g.met.P.Source.ended_law g.met.P.Sink.write_law
    g.met.P.Port.read_leaves g.met.P.Port.write_leaves c.args.writer.now c.requires.writer c.args.port.now c.stream.new.port c.stream.result c.stream.ensures.streams
