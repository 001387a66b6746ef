use Rattle.std.proofs.Common.{false}
use Rattle.h1_text.proofs.Chunking.{end_body, end_bodyless, end_none, plain_sent}
use Rattle.h1_text.proofs.bodies.send_end.Goals as goal

pub returns-else-chunked-clause-sends : goal.returns-else-chunked-clause-sends
returns-else-chunked-clause-sends g c =
    let trailers = c.args.trailers.now.lines in
    end_body c.args.head.now.bytes c.args.kept.now trailers c.args.stage c.in-Body.chunked false c.write_all-else-chunked.result c.in-Body.is c.if-chunked.false
    (plain_sent c.args.kept.now trailers c.write_all-else-chunked.result c.write_all-else-chunked.ensures)

pub returns-in-Bodyless-clause-sends : goal.returns-in-Bodyless-clause-sends
returns-in-Bodyless-clause-sends g c =
    end_bodyless c.args.head.now.bytes c.args.kept.now c.args.trailers.now.lines c.args.stage c.as_slice.result.now c.write_all.result c.in-Bodyless.is c.as_slice.ensures c.write_all.ensures

pub returns-in-Start-clause-sends : goal.returns-in-Start-clause-sends
returns-in-Start-clause-sends g c = end_none c.args.head.now.bytes c.args.kept.now c.args.trailers.now.lines c.args.stage c.in-Start.is
