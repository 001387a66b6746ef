use Rattle.std.proofs.Common.{◌≡◌, ◌≤◌, ◌+◌, length, vec_len, vec_capacity}
use Rattle.h1_spec.specs.Heads.{HoldsNoEnd}
use Rattle.h1_head.proofs.Ending.{Seen}
use Rattle.h1_head.proofs.reader.gather.Given as goal

abbrev pub invariant-loop-line : goal.invariant-loop-line
invariant-loop-line l = record {
  seen : Seen l.initial.seen.items l.piece l.seen.items l.rest;
  none : HoldsNoEnd l.seen.items;
  capacity : vec_capacity l.initial.seen ≤ vec_capacity l.seen;
  len : vec_len l.seen + length l.rest ≡ vec_len l.initial.seen + length l.piece;
}

abbrev pub decreases-loop-line : goal.decreases-loop-line
decreases-loop-line l = length l.rest
