use Rattle.std.proofs.Common.{refl, ap, arith}
use Rattle.bh_spec.proofs.Within.{zero_within, some_within}
use Rattle.bh_fields.specs.Middle.{SectionView}
use Rattle.bh_push.proofs.Ending.{start_open, start_alive}
use Rattle.bh_push.proofs.decoder.Decoder.new.Goals as goal

pub invariant_of-result : goal.invariant_of-result
invariant_of-result c =
    let five = some_within c.args.limits.now.part c.part-part.result 5 c.part-part.ensures.value (omega (arith, c.part-part.ensures.low)) in
    let control = c.in_ok-control.ensures.limits in
    let section = ap (λ (v : SectionView). v.limits) c.in_ok-section.ensures in
    record {
      course = record { five = five; control = control; section = section };
      opened = λ e. start_open _ refl c.new-3.ensures (record { five = five; control = control; section = section });
      alive = λ e. start_alive c.args.limits.now c.new-3.result c.new-3.ensures five;
      zeros = λ e. omega arith;
      counted = zero_within c.args.limits.now.input;
    }
