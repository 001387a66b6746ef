use Rattle.std.proofs.Common.{◌++◌, false, [], arith, length-append}
use Rattle.bh_spec.specs.Messages.{response}
use Rattle.h1_spec.specs.Written.{text_of_head, response_written}
use Rattle.h1_text.specs.Owed.{head_front, head_end}
use Rattle.h1_text.proofs.HeadParts.{response_writable, held_bytes, held_room}
use Rattle.h1_text.proofs.Jobs.{response_bytes}
use Rattle.h1_text.proofs.heads.hold_whole.Goals as goal

pub write_response_head-requires : goal.write_response_head-requires
write_response_head-requires c = response_writable c.args.status c.args.fields.now.lines false c.requires.writable

pub returns-clause-bytes : goal.returns-clause-bytes
returns-clause-bytes c =
    let status = c.args.status in
    let fields = c.args.fields.now.lines in
    let front = head_front (response [] status) fields in
    held_bytes c.args.head.now c.clear.new.self c.write_response_head.new.sink (text_of_head (response_written status fields false)) (front ++ head_end false) c.write_response_head.result c.clear.ensures
    c.write_response_head.ensures.wrote (response_bytes status fields false) (omega (arith, length-append front (head_end false), c.requires.room))

pub returns-clause-room : goal.returns-clause-room
returns-clause-room c =
    let status = c.args.status in
    let fields = c.args.fields.now.lines in
    let front = head_front (response [] status) fields in
    held_room c.args.head.now c.clear.new.self c.write_response_head.new.sink (text_of_head (response_written status fields false)) (front ++ head_end false) c.write_response_head.result c.clear.ensures
    c.write_response_head.ensures.wrote (response_bytes status fields false) (omega (arith, length-append front (head_end false), c.requires.room))
