use Rattle.std.proofs.Common.{refl, arith}
use Rattle.bh_spec.proofs.Within.{zero_within}
use Rattle.bh_push.proofs.Ending.{start_open, start_alive}
use Rattle.bh_push.proofs.decoder.Decoder.begin.Goals as goal

pub invariant_of-self : goal.invariant_of-self
invariant_of-self c =
    let h = c.self.invariant.course in
    record {
      course = record { five = h.five; control = h.control; section = h.section };
      opened = λ e. start_open _ refl c.new-self-inside.ensures (record { five = h.five; control = h.control; section = h.section });
      alive = λ e. start_alive c.self.inside.course.limits c.new-self-inside.result c.new-self-inside.ensures h.five;
      zeros = λ e. omega arith;
      counted = zero_within c.self.inside.course.limits.input;
    }
