use Rattle.h1_text.proofs.Chunking.{head_sent, head_room}
use Rattle.h1_text.proofs.bodies.send_head.Goals as goal

pub returns-clause-sends : goal.returns-clause-sends
returns-clause-sends g c =
    head_sent c.args.chunked c.args.head.now c.write_head_end.new.sink c.as_slice.result.now c.write_head_end.result c.write_all.result c.requires c.write_head_end.ensures.wrote c.as_slice.ensures
    c.write_all.ensures

pub returns-clause-room : goal.returns-clause-room
returns-clause-room g c = head_room c.args.chunked c.args.head.now c.write_head_end.new.sink c.write_head_end.result c.requires c.write_head_end.ensures.wrote
