use Rattle.h1_text.proofs.Chunking.{some_of, held_sent, held_failed}
use Rattle.h1_text.proofs.bodies.send_held.Goals as goal

pub returns-in_err-send_head-clause-sends : goal.returns-in_err-send_head-clause-sends
returns-in_err-send_head-clause-sends g c =
    let trailers = c.args.trailers.now.lines in
    held_failed c.args.head.now.bytes trailers c.send_head-2.result c.from_residual.result (some_of trailers c.is_empty.result c.is_empty.ensures.1 c.if-is_empty.false) c.in_err-send_head.was c.from_residual.ensures.0
    c.send_head-2.ensures.sends

pub returns-clause-sends : goal.returns-clause-sends
returns-clause-sends g c =
    let trailers = c.args.trailers.now.lines in
    held_sent c.args.head.now.bytes trailers c.send_head-2.result c.write_last.result (some_of trailers c.is_empty.result c.is_empty.ensures.1 c.if-is_empty.false) c.in_ok-send_head.was c.send_head-2.ensures.sends
    c.write_last.ensures.wrote
