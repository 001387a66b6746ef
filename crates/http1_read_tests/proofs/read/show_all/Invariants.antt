use Rattle.h1_read.specs.Readings.{IsReady}
use Rattle.http1_read_tests.proofs.read.show_all.Given as goal

abbrev pub invariant-loop : goal.invariant-loop
invariant-loop l = IsReady l.reading
