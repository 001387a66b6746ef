use Rattle.std.proofs.Common.{true, [], ◌∷◌, Ok, subst}
use Rattle.bh_spec.specs.Items.{ending}
use Rattle.bh_stream.specs.Jobs.{SendsRest}
use Rattle.bh_listing.specs.Owed.{Lister, owed}
use Rattle.bh_listing.proofs.Due.{end_was_sent, end_sent}
use Rattle.bh_listing.proofs.writer.ListingWriterJobReading.finish.Goals as goal

pub returns-then-self : goal.returns-then-self
returns-then-self g c = λ omitted padding.
    subst (λ (s : Lister). SendsRest g.S.Sink.write_step true (owed s (ending omitted padding ∷ [])) c.args.sink.now (Ok tt) c.args.sink.now) c.self.view_is
    (end_was_sent c.self.inside.writer c.self.inside.ended omitted padding c.args.sink.now c.if-self.true)

pub returns : goal.returns
returns g c = λ omitted padding.
    subst (λ (s : Lister). SendsRest g.S.Sink.write_step true (owed s (ending omitted padding ∷ [])) c.args.sink.now c.finish.result c.finish.new.sink) c.self.view_is
    (end_sent c.self.inside.writer c.self.inside.ended c.self.inside.none.lines omitted padding c.finish.result c.if-self.false c.self.invariant.0 c.finish.ensures.wrote)
