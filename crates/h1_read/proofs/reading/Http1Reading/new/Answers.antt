use Rattle.std.proofs.Common.{false, refl, ap, subst}
use Rattle.bh_spec.specs.declared.Kind.TheVariants.{Request}
use Rattle.bh_model.specs.Ranges.{AreLimits}
use Rattle.h1_read.specs.Places.{Setting}
use Rattle.h1_read.specs.Reads.{view_at}
use Rattle.h1_read.proofs.AtStart.{ready_at_start}
use Rattle.h1_read.proofs.reading.Http1Reading.new.Goals as goal

pub returns-clause-ready : goal.returns-clause-ready
returns-clause-ready c =
    let e = c.in_ok-reader.ensures in
    ready_at_start c.args.limits.now c.args.scheme c.args.to_head (view_at c.in_ok-reader.reader 0 Request 0 0 false)
    (subst AreLimits (ap (λ (S : Setting). S.limits) e.setting) e.built.limits)
    (record { setting = e.setting; place = e.place; taken = refl; refused = refl; lines = refl; content = refl })
