use Rattle.std.proofs.Common.{ap}
use Rattle.bh_model.specs.Values.{control_lent}
use Rattle.bh_encode.specs.Calls.{Encoder, text_of, request_head}
use Rattle.bh_canonical.proofs.Heads.{fault_as}
use Rattle.bh_canonical.proofs.sending.send_request.Goals as goal

pub returns-in-Err-clause-wrote : goal.returns-in-Err-clause-wrote
returns-in-Err-clause-wrote g c = fault_as (ap (λ (e : Encoder). text_of e (request_head (control_lent c.args.control) c.args.fields.now.lines)) c.begin.ensures) c.in-Err.ensures.wrote
