use Rattle.h1_judge.proofs.Lengths.{counting_of}
use Rattle.h1_judge.proofs.judging.Judge.announce.Goals as goal

pub returns-clause-counting : goal.returns-clause-counting
returns-clause-counting c = counting_of c.args.self.now.to_head c.args.status c.args.fields.now.lines c.announced_by-self.result c.requires c.announced_by-self.ensures
