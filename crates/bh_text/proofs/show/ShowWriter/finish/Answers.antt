use Rattle.std.proofs.Common.{[], ◌∷◌, map}
use Rattle.bh_spec.specs.Listing.{trailer, the_end, content_lines}
use Rattle.bh_base.proofs.Putting.{puts_on, puts_as, flushes, all_counted}
use Rattle.bh_text.proofs.Sections.{three}
use Rattle.bh_text.proofs.show.ShowWriter.finish.Goals as goal

pub returns-clause-wrote : goal.returns-clause-wrote
returns-clause-wrote g c =
    rw (← c.self.view_is) (flushes c.new-out.ensures
    (puts_as (three (content_lines c.self.inside.waiting) (map trailer c.args.trailers.now.lines) (the_end ∷ []))
    (puts_on c.put_last.ensures (puts_on c.put_trailers.ensures c.put_end.ensures))) c.flush.ensures.wrote)

pub returns-clause-counts : goal.returns-clause-counts
returns-clause-counts g c = all_counted g.met.S.Sink.write_law c.flush.result c.new-out.ensures (puts_on c.put_last.ensures (puts_on c.put_trailers.ensures c.put_end.ensures)) c.flush.ensures.wrote
