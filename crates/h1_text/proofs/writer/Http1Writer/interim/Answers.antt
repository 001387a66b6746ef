use Rattle.h1_text.proofs.Jobs.{interim_sent}
use Rattle.h1_text.proofs.writer.Http1Writer.interim.Goals as goal

pub returns-clause-sends : goal.returns-clause-sends
returns-clause-sends g c = interim_sent c.args.self.now c.args.status c.args.fields.now.lines c.write_response_head.result c.requires.start c.write_response_head.ensures.wrote
