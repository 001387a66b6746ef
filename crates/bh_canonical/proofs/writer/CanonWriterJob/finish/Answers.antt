use Rattle.std.proofs.Common.{drop, ap, sym, ◌∙◌}
use Rattle.bh_canonical.proofs.Sent.{finish_went, finish_none}
use Rattle.bh_canonical.proofs.writer.CanonWriterJob.finish.Goals as goal

pub returns-in-Content : goal.returns-in-Content
returns-in-Content g c =
    finish_went c.args.self.now c.self.inside.stage (drop 2 c.self.inside.chunk.items) c.self.view_is c.in-Content.encoder (sym c.replace.ensures.value ∙ c.in-Content.is) c.self.inside.none.lines c.self.invariant.none c.send_end.result
    (rw (c.content_of.ensures ∙ ap (drop 2) c.deref.ensures.value) at c.send_end.ensures)

pub returns : goal.returns
returns g c = finish_none c.args.self.now c.self.inside.stage (drop 2 c.self.inside.chunk.items) c.self.view_is c.args.sink.now (λ e is. c.in_default.not-Content e (c.replace.ensures.value ∙ is))
