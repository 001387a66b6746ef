use Rattle.std.proofs.Common.{◌-◌, ◌≡◌, length}
use Rattle.bh_decode.proofs.Openings.{Opened}
use Rattle.bh_decode.proofs.opening.read_opening.Given as goal

abbrev pub invariant-loop-interim : goal.invariant-loop-interim
invariant-loop-interim l = record {
  opened : Opened l.fn.reader.limits l.form l.interims l.bytes l.done;
  limits : l.reader.limits ≡ l.fn.reader.limits;
}

abbrev pub decreases-loop-interim : goal.decreases-loop-interim
decreases-loop-interim l = length l.bytes - l.done
