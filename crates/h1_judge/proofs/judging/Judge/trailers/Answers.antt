use Rattle.h1_judge.proofs.Rooms.{room_of}
use Rattle.h1_rules.proofs.Named.{trailers_named}
use Rattle.h1_judge.proofs.judging.Judge.trailers.Goals as goal

pub clean_trailers_into-requires-clause-named : goal.clean_trailers_into-requires-clause-named
clean_trailers_into-requires-clause-named c = trailers_named c.args.fields.now.lines c.requires.2.valid

pub clean_trailers_into-requires-clause-room : goal.clean_trailers_into-requires-clause-room
clean_trailers_into-requires-clause-room c =
    let r = c.requires in
    (room_of r.0 c.args.self.now r.1 c.args.fields.now.lines r.2.fits (trailers_named c.args.fields.now.lines r.2.valid)).lines

pub clean_trailers_into-requires-clause-count : goal.clean_trailers_into-requires-clause-count
clean_trailers_into-requires-clause-count c =
    let r = c.requires in
    (room_of r.0 c.args.self.now r.1 c.args.fields.now.lines r.2.fits (trailers_named c.args.fields.now.lines r.2.valid)).count
