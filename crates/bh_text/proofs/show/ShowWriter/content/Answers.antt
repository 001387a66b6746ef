use Rattle.bh_base.proofs.Putting.{flushes, all_counted}
use Rattle.bh_text.proofs.show.ShowWriter.content.Goals as goal

pub returns-clause-wrote : goal.returns-clause-wrote
returns-clause-wrote g c = rw (← c.self.view_is) (flushes c.new-out.ensures c.put_filled.ensures.puts c.flush.ensures.wrote)

pub returns-clause-counts : goal.returns-clause-counts
returns-clause-counts g c = all_counted g.met.S.Sink.write_law c.flush.result c.new-out.ensures c.put_filled.ensures.puts c.flush.ensures.wrote
