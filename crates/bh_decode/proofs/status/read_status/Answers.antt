use Rattle.std.proofs.Common.{ℕ, List, Some, subst}
use Rattle.bh_control.specs.Statuses.{AnswersStatus}
use Rattle.bh_control.specs.declared.status.StatusStep.TheVariants.{Need, Dead, Limit}
use Rattle.bh_decode.proofs.Framings.{status_cut}
use Rattle.bh_decode.proofs.status.read_status.Goals as goal

pub returns-in-Need-clause-stops : goal.returns-in-Need-clause-stops
returns-in-Need-clause-stops c =
    status_cut (Some c.args.interims_left) c.args.bytes.now
    (subst (λ (x : List ℕ). AnswersStatus c.args.interims_left x c.args.bytes.now Need) c.new.ensures c.in-Need.ensures.shows)

pub returns-in-Dead-clause-stops : goal.returns-in-Dead-clause-stops
returns-in-Dead-clause-stops c =
    subst (λ (x : List ℕ). AnswersStatus c.args.interims_left x c.args.bytes.now (Dead c.in-Dead.offset)) c.new.ensures c.in-Dead.ensures.shows

pub returns-in-Limit-clause-stops : goal.returns-in-Limit-clause-stops
returns-in-Limit-clause-stops c =
    subst (λ (x : List ℕ). AnswersStatus c.args.interims_left x c.args.bytes.now (Limit c.in-Limit.offset)) c.new.ensures c.in-Limit.ensures.shows
