use Rattle.std.proofs.Common.{◌≤◌, ◌-◌, drop, length}
use Rattle.h1_spec.specs.Cleaning.{values_of, cookie, crumbs}
use Rattle.h1_rules.proofs.Cookies.{IsJoining}
use Rattle.h1_rules.proofs.cleaning.put_crumbs.Given as goal

abbrev pub invariant-loop-value : goal.invariant-loop-value
invariant-loop-value l = record {
  inside : l.from ≤ length l.fields.lines;
  joining : IsJoining l.initial.to l.to l.some (crumbs (values_of cookie (drop l.from l.fields.lines))) (crumbs (values_of cookie l.fields.lines));
}

abbrev pub decreases-loop-value : goal.decreases-loop-value
decreases-loop-value l = length l.fields.lines - l.from
