use Rattle.std.proofs.Common.{◌≤◌, true, map, sym, subst}
use Rattle.bh_spec.specs.Items.{content_byte}
use Rattle.bh_stream.specs.Jobs.{Sends}
use Rattle.bh_listing.specs.Owed.{Lister, owed, held, takes}
use Rattle.bh_listing.proofs.Due.{content_sent}
use Rattle.bh_listing.proofs.writer.ListingWriterJobReading.content.Goals as goal

pub returns : goal.returns
returns g c =
    let i = c.self.inside in
    let t : Lister = record { writer = c.content.new.self; ended = i.ended } in
    subst
    (λ (s : Lister). Sends g.S.Sink.write_step true 31 (owed s) (owed t) (held s) (held t) (takes s) (takes t) (map content_byte c.args.bytes.now) c.args.sink.now c.content.result c.content.new.sink)
    c.self.view_is
    (content_sent i.writer c.content.new.self i.ended c.args.bytes.now c.content.result
    (subst (λ (s : Lister). held s ≤ 31) (sym c.self.view_is) c.requires.few) c.requires.some c.content.ensures.next c.content.ensures.wrote)
