use Rattle.std.proofs.Common.{◌∙◌, ap}
use Rattle.bh_stream.specs.declared.streaming.End.TheVariants as end
use Rattle.bh_canon.specs.Ends.{ended}
use Rattle.bh_cmd.proofs.Trying.{engine_completes, engine_done, run_of, complete_of, not_tried, never_refused, trial_told}
use Rattle.bh_cmd.proofs.trial.trial.Goals as goal

pub returns-in_default : goal.returns-in_default
returns-in_default g c = not_tried c.args.content

pub returns-in-Done : goal.returns-in-Done
returns-in-Done g c =
    let n = c.args.content in
    let r = end.Done c.in-Done.summary in
    let limits = c.in-Ok.ensures ∙ c.default.ensures in
    let run = run_of n c.in-Ok.engine c.new-trial.result c.canon.new.port c.canon.result r limits c.new-trial.ensures (ap ended c.in-Done.is) c.canon.ensures.call in
    let complete = complete_of n c.in-Ok.engine c.new-trial.result c.canon.new.port c.canon.result r limits c.new-trial.ensures (ap ended c.in-Done.is) c.canon.ensures.complete in
    trial_told g.met.P.Sink.write_law g.met.P.Port.write_leaves n c.in-Done.summary _ (engine_done n c.canon.new.port c.in-Done.summary run)
    c.requires (engine_completes n c.canon.new.port r complete) c.tell.result c.tell.ensures

pub returns-in-Refused : goal.returns-in-Refused
returns-in-Refused g c =
    let n = c.args.content in
    let r = end.Refused c.in-Refused.refusal in
    let limits = c.in-Ok.ensures ∙ c.default.ensures in
    let complete = complete_of n c.in-Ok.engine c.new-trial.result c.canon.new.port c.canon.result r limits c.new-trial.ensures (ap ended c.in-Refused.is) c.canon.ensures.complete in
    absurd (never_refused n c.requires c.in-Refused.refusal (engine_completes n c.canon.new.port r complete))

pub returns : goal.returns
returns g c = not_tried c.args.content
