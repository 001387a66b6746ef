use Rattle.h1_judge.proofs.Rooms.{room_of}
use Rattle.h1_rules.proofs.Named.{headers_named}
use Rattle.h1_judge.proofs.judging.Judge.interim.Goals as goal

pub clean_header-requires-clause-room : goal.clean_header-requires-clause-room
clean_header-requires-clause-room c =
    let r = c.requires in
    room_of r.0 c.args.self.now r.1 c.args.fields.now.lines r.2.fits (headers_named c.args.fields.now.lines r.2.valid.fields)

pub clean_header-requires-clause-named : goal.clean_header-requires-clause-named
clean_header-requires-clause-named c = headers_named c.args.fields.now.lines c.requires.2.valid.fields
