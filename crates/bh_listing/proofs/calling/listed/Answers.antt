use Rattle.std.proofs.Common.{true, subst}
use Rattle.bh_reading.proofs.AtStart.{ready_at_start}
use Rattle.bh_reading.specs.Readings.{rest, room, Moved, refuses, tells, misses}
use Rattle.bh_stream.specs.Runs.{Streams}
use Rattle.bh_listing.specs.Owed.{Lister, owed}
use Rattle.bh_listing.proofs.Called.{was_listed}
use Rattle.bh_listing.proofs.calling.listed.Goals as goal

pub stream-requires-clause-ready : goal.stream-requires-clause-ready
stream-requires-clause-ready g c = ready_at_start c.args.reading.now.held.decoder.limits c.requires.limits c.begin.new.self c.begin.ensures

pub returns-clause-call : goal.returns-clause-call
returns-clause-call g c =
    was_listed c.args.reading.now.held.decoder.limits c.requires.limits c.begin.new.self c.begin.ensures c.stream.result
    (subst (λ (w : Lister). Streams rest room Moved refuses tells misses true 31 g.P.Source.read_step g.P.Sink.write_step c.begin.new.self (owed w) c.args.port.now c.stream.result c.stream.new.port) c.begin-2.ensures c.stream.ensures.streams)
