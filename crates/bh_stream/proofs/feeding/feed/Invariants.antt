use Rattle.std.proofs.Common.{◌≡◌, length}
use Rattle.bh_stream.proofs.Parts.{FedSo}
use Rattle.bh_stream.proofs.feeding.feed.Given as goal

abbrev pub invariant-loop-rest : goal.invariant-loop-rest
invariant-loop-rest g l = record {
  so_far : FedSo g.D.Decode.rest g.D.Decode.moves g.D.Decode.ready g.J.Job.writes g.J.Job.most g.S.Sink.write_step l.initial.decoder (g.J.Job.owed l.initial.job) (g.J.Job.held l.initial.job) l.piece l.initial.sink
      l.rest l.decoder (g.J.Job.owed l.job) (g.J.Job.held l.job) (g.J.Job.takes l.job) l.sink;
  limits : g.D.Decode.limits l.decoder ≡ g.D.Decode.limits l.initial.decoder;
}

abbrev pub decreases-loop-rest : goal.decreases-loop-rest
decreases-loop-rest g l = length l.rest
