use Rattle.std.proofs.Common.{true, sym, subst}
use Rattle.bh_stream.specs.Runs.{Streams}
use Rattle.bh_stream.proofs.Coming.{fits_all}
use Rattle.bh_reading.specs.Readings.{rest, room, Moved, refuses, tells, misses}
use Rattle.bh_reading.specs.ReadingLaws.{reading_laws}
use Rattle.bh_reading.proofs.AtStart.{ready_at_start}
use Rattle.bh_reading.proofs.Coming.{comes_at_start}
use Rattle.bh_canonical.specs.Writers.{Writing, owed, takes}
use Rattle.bh_canonical.proofs.Called.{called}
use Rattle.bh_canonical.proofs.calling.canonical.Goals as goal

pub stream-requires-clause-ready : goal.stream-requires-clause-ready
stream-requires-clause-ready g c = ready_at_start c.args.reading.now.held.decoder.limits c.requires.limits c.begin.new.self c.begin.ensures

pub stream-requires-clause-fits : goal.stream-requires-clause-fits
stream-requires-clause-fits g c =
    let L = c.args.reading.now.held.decoder.limits in
    fits_all reading_laws c.begin.new.self (takes c.begin-2.new.self)
    (λ q t h. subst (λ (w : Writing). takes w q) (sym c.begin-2.ensures) (L, c.requires.limits, comes_at_start L c.requires.limits c.begin.new.self c.begin.ensures q t h))

pub returns-clause-call : goal.returns-clause-call
returns-clause-call g c =
    called c.args.reading.now.held.decoder.limits c.requires.limits c.begin.new.self c.begin.ensures c.stream.result
    (subst (λ (w : Writing). Streams rest room Moved refuses tells misses true 8191 g.P.Source.read_step g.P.Sink.write_step c.begin.new.self (owed w) c.args.port.now c.stream.result c.stream.new.port) c.begin-2.ensures c.stream.ensures.streams)
