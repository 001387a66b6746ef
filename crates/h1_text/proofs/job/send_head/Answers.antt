use Rattle.std.proofs.Common.{ap, ◌∙◌}
use Rattle.bh_model.specs.Values.{control_lent}
use Rattle.bh_push.specs.Hands.{Held, control_shown, status_shown}
use Rattle.h1_text.proofs.Cleaned.{request_shown, response_shown}
use Rattle.h1_text.proofs.job.send_head.Goals as goal

pub request_head-requires-clause-writable : goal.request_head-requires-clause-writable
request_head-requires-clause-writable g c =
    (request_shown c.args.decoder.now c.args.writer.now c.requires (control_lent c.in-Some.control) c.cleaned.result.now.lines
    (c.in-Some.ensures ∙ ap (λ (h : Held). control_shown h.head) c.decoder-shown.ensures) c.cleaned.ensures.lines).0

pub response_head-requires-clause-writable : goal.response_head-requires-clause-writable
response_head-requires-clause-writable g c =
    (response_shown c.args.decoder.now c.args.writer.now c.requires c.in-Some-status.status c.cleaned-in-Some-status.result.now.lines
    (c.in-Some-status.ensures ∙ ap (λ (h : Held). status_shown h.head) c.decoder-shown.ensures) c.cleaned-in-Some-status.ensures.lines).0
