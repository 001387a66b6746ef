use Rattle.bh_reading.proofs.AtStart.{ready_at_start}
use Rattle.bh_reading.proofs.Checked.{checked}
use Rattle.bh_reading.proofs.checking.check.Goals as goal

pub stream-requires-clause-ready : goal.stream-requires-clause-ready
stream-requires-clause-ready g c = ready_at_start c.args.reading.now.held.decoder.limits c.requires.limits c.begin.new.self c.begin.ensures

pub returns-clause-call : goal.returns-clause-call
returns-clause-call g c = checked c.args.reading.now.held.decoder.limits c.requires.limits c.begin.new.self c.begin.ensures c.stream.result c.stream.ensures.streams
