use Rattle.std.proofs.Common.{◌≡◌, length}
use Rattle.bh_stream.proofs.Turns.{CallSo}
use Rattle.bh_stream.proofs.streaming.stream.Given as goal

abbrev pub invariant-loop-count : goal.invariant-loop-count
invariant-loop-count g l = record {
  so_far : CallSo g.D.Decode.rest g.D.Decode.room g.D.Decode.moves g.D.Decode.ready g.J.Job.writes g.J.Job.most g.P.Source.read_step g.P.Sink.write_step l.initial.decoder (g.J.Job.owed l.initial.job) l.initial.port
      l.decoder (g.J.Job.owed l.job) (g.J.Job.held l.job) (g.J.Job.takes l.job) l.port;
  room : length l.buffer ≡ length l.initial.buffer;
  limits : g.D.Decode.limits l.decoder ≡ g.D.Decode.limits l.initial.decoder;
}

abbrev pub decreases-loop-count : goal.decreases-loop-count
decreases-loop-count g l = g.D.Decode.room l.decoder
