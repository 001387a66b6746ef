use Rattle.std.proofs.Common.{◌++◌, length}
use Rattle.bh_text.proofs.Filling.{FilledSo}
use Rattle.bh_text.proofs.show.put_filled.Given as goal

abbrev pub invariant-loop-rest : goal.invariant-loop-rest
invariant-loop-rest g l = FilledSo g.S.Sink.write_step l.initial.sink l.initial.out (l.initial.waiting ++ l.bytes) l.waiting l.rest l.sink l.out

abbrev pub decreases-loop-rest : goal.decreases-loop-rest
decreases-loop-rest g l = length l.rest
