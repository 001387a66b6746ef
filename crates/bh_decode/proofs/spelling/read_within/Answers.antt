use Rattle.std.proofs.Common.{sym, subst}
use Rattle.bh_spec.specs.declared.Refusal.{Refusal}
use Rattle.bh_spec.specs.Answers.{refused, IsAnswer}
use Rattle.bh_spec.specs.Bounds.{no_bounds}
use Rattle.bh_spec.specs.Viable.{IsMessageText}
use Rattle.bh_decode.specs.Stops.{Stops, AtStop}
use Rattle.bh_decode.proofs.Stopped.{stop_answers}
use Rattle.bh_decode.proofs.spelling.read_within.Goals as goal

pub returns-in-Err-Stop : goal.returns-in-Err-Stop
returns-in-Err-Stop c =
    subst (λ (r : Refusal). IsAnswer c.args.limits.now c.args.bytes.now (refused r)) (sym c.refusal.ensures)
    (stop_answers c.args.limits.now c.args.bytes.now c.requires.within c.in-Err-Stop.stop
    (subst (AtStop (Stops (IsMessageText c.args.limits.now) (IsMessageText no_bounds) c.args.bytes.now)) c.in-Err-Stop.field-0-is c.in-Err-Stop.ensures.stops))
