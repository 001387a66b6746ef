use Rattle.h1_read.proofs.HeadRooms.{trailers_named, trailers_room}
use Rattle.h1_read.proofs.heads.HeadJudge.trailers.Goals as goal

pub clean_trailers_into-requires-clause-named : goal.clean_trailers_into-requires-clause-named
clean_trailers_into-requires-clause-named c = trailers_named c.args.self.now c.args.trailers.now.lines c.requires.trailers

pub clean_trailers_into-requires-clause-room : goal.clean_trailers_into-requires-clause-room
clean_trailers_into-requires-clause-room c = (trailers_room c.args.self.now c.requires.sound c.args.trailers.now.lines c.requires.trailers).0

pub clean_trailers_into-requires-clause-count : goal.clean_trailers_into-requires-clause-count
clean_trailers_into-requires-clause-count c = (trailers_room c.args.self.now c.requires.sound c.args.trailers.now.lines c.requires.trailers).1
