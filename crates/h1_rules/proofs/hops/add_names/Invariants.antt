use Rattle.std.proofs.Common.{◌≡◌, ◌≤◌, ◌+◌, ◌++◌, length, vec_len, vec_capacity}
use Rattle.h1_rules.specs.Hopping.{hops_in, names_held}
use Rattle.h1_rules.proofs.hops.add_names.Given as goal

abbrev pub invariant-loop-piece : goal.invariant-loop-piece
invariant-loop-piece l = record {
  named : names_held l.names.items ++ hops_in l.rest ≡ names_held l.initial.names.items ++ hops_in l.value;
  room : vec_len l.names + length l.rest ≤ vec_len l.initial.names + length l.value;
  capacity : vec_capacity l.initial.names ≤ vec_capacity l.names;
}

abbrev pub decreases-loop-piece : goal.decreases-loop-piece
decreases-loop-piece l = length l.rest
