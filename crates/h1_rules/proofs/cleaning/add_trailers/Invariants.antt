use Rattle.std.proofs.Common.{drop}
use Rattle.h1_spec.specs.Cleaning.{without}
use Rattle.h1_rules.specs.Own.{dropped_trailers, IsAdding}
use Rattle.h1_rules.proofs.cleaning.add_trailers.Given as goal

abbrev pub invariant-loop-i : goal.invariant-loop-i
invariant-loop-i l =
    IsAdding l.initial.cleaned l.cleaned (without (dropped_trailers l.hops.names) (drop l.i l.fields.lines)) (without (dropped_trailers l.hops.names) l.fields.lines)
