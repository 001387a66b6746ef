use Rattle.std.proofs.Common.{◌≡◌, ◌≤◌, ◌-◌, Some, false, length}
use Rattle.h1_body.proofs.WholeSteps.{Made}
use Rattle.h1_body.proofs.whole.read_body.Given as goal

abbrev pub invariant-loop-reader : goal.invariant-loop-reader
invariant-loop-reader l = record {
  inside : l.at ≤ length l.bytes;
  kept : l.reader.refused ≡ false;
  section : l.limits.section ≡ Some l.reader.section;
  made : Made l.limits.section l.fn.framing l.bytes l.at l.content.items l.reader.at;
}

abbrev pub decreases-loop-reader : goal.decreases-loop-reader
decreases-loop-reader l = length l.bytes - l.at
