use Rattle.std.proofs.Common.{ℕ, List, subst}
use Rattle.bh_base.specs.Batches.{Writes}
use Rattle.bh_model.specs.Values.{control_lent}
use Rattle.bh_canonical.specs.Stages.{is_begun}
use Rattle.bh_canonical.proofs.Heads.{control_due, request_text}
use Rattle.bh_canonical.proofs.sending.send_head.Goals as goal

pub send_request-requires-clause-control : goal.send_request-requires-clause-control
send_request-requires-clause-control g c = control_due (is_begun c.args.stage) (g.D.Hands.head c.args.decoder.now) (g.D.Hands.lines c.args.decoder.now) c.requires.due (control_lent c.in-Some.control) c.in-Some.ensures

pub returns-in-Some-clause-wrote : goal.returns-in-Some-clause-wrote
returns-in-Some-clause-wrote g c = λ of fields head lines.
    subst (λ (x : List ℕ). Writes g.S.Sink.write_step c.args.sink.now x c.send_request.result c.send_request.new.sink)
    (request_text (is_begun c.args.stage) (g.D.Hands.head c.args.decoder.now) (g.D.Hands.lines c.args.decoder.now) c.requires.due (control_lent c.in-Some.control) c.fields.result.now.lines c.in-Some.ensures c.fields.ensures.lines of fields head lines) c.send_request.ensures.wrote
