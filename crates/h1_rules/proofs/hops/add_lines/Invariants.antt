use Rattle.std.proofs.Common.{◌≡◌, ◌≤◌, ◌-◌, ◌+◌, ◌++◌, codes, drop, length, vec_len, vec_capacity}
use Rattle.h1_spec.specs.Cleaning.{values_of, hops}
use Rattle.h1_rules.specs.Hopping.{hops_of_values, names_held}
use Rattle.h1_rules.proofs.HopLemmas.{values_room}
use Rattle.h1_rules.proofs.hops.add_lines.Given as goal

abbrev pub invariant-loop-value : goal.invariant-loop-value
invariant-loop-value l = record {
  inside : l.from ≤ length l.fields.lines;
  named : names_held l.names.items ++ hops_of_values (values_of (codes "connection") (drop l.from l.fields.lines)) ≡ hops l.fields.lines;
  room : vec_len l.names + values_room (values_of (codes "connection") (drop l.from l.fields.lines)) ≤ vec_capacity l.names;
  capacity : vec_capacity l.initial.names ≤ vec_capacity l.names;
}

abbrev pub decreases-loop-value : goal.decreases-loop-value
decreases-loop-value l = length l.fields.lines - l.from
