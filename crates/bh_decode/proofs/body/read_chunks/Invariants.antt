use Rattle.std.proofs.Common.{◌-◌, length}
use Rattle.bh_decode.proofs.Chunks.{Chunked}
use Rattle.bh_decode.proofs.body.read_chunks.Given as goal

abbrev pub invariant-loop-run : goal.invariant-loop-run
invariant-loop-run l = Chunked l.content.items l.bytes l.taken

abbrev pub decreases-loop-run : goal.decreases-loop-run
decreases-loop-run l = length l.bytes - l.taken
