use Rattle.std.proofs.Common.{drop, false}
use Rattle.h1_spec.specs.Cleaning.{values_of, cookie, crumbs}
use Rattle.h1_rules.specs.Own.{dropped_names, own_lines, IsAdding}
use Rattle.h1_rules.proofs.cleaning.add_own.Given as goal

abbrev pub invariant-loop-i : goal.invariant-loop-i
invariant-loop-i l =
    IsAdding l.initial.cleaned l.cleaned
    (own_lines (dropped_names l.hops.names l.drop_host) (crumbs (values_of cookie l.fields.lines)) l.joined (drop l.i l.fields.lines))
    (own_lines (dropped_names l.hops.names l.drop_host) (crumbs (values_of cookie l.fields.lines)) false l.fields.lines)
