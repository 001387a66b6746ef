use Rattle.std.proofs.Common.{[], ◌∷◌, map}
use Rattle.bh_spec.specs.Listing.{status, field}
use Rattle.bh_text.specs.Showing.{first_line}
use Rattle.bh_base.proofs.Putting.{puts_on, puts_as, flushes, all_counted}
use Rattle.bh_text.proofs.Sections.{three}
use Rattle.bh_text.proofs.show.ShowWriter.response_head.Goals as goal

pub returns-clause-wrote : goal.returns-clause-wrote
returns-clause-wrote g c =
    rw (← c.self.view_is) (flushes c.new-out.ensures
    (puts_as (three (first_line c.self.inside.begun c.self.inside.kind) (status c.args.status ∷ []) (map field c.args.fields.now.lines))
    (puts_on c.put_first.ensures (puts_on c.put_status.ensures c.put_fields.ensures))) c.flush.ensures.wrote)

pub returns-clause-counts : goal.returns-clause-counts
returns-clause-counts g c = all_counted g.met.S.Sink.write_law c.flush.result c.new-out.ensures (puts_on c.put_first.ensures (puts_on c.put_status.ensures c.put_fields.ensures)) c.flush.ensures.wrote
