use Rattle.std.proofs.Common.{Bool, false, List, ℕ, drop, refl, sym, ap, ◌∙◌}
use Rattle.bh_model.specs.Values.{control_lent}
use Rattle.h1_text.specs.Writers.{Writing, writing_of}
use Rattle.h1_text.specs.declared.stage.Stage.TheVariants as stages
use Rattle.h1_text.proofs.Jobs.{request_sent, request_held, none_kept}
use Rattle.h1_text.proofs.writer.Http1Writer.request_head.Goals as goal

pub returns-then-has_length-clause-sends : goal.returns-then-has_length-clause-sends
returns-then-has_length-clause-sends g c =
    let i = c.self.inside in
    let kept : List ℕ = drop 6 i.chunk.items in
    request_sent c.args.self.now (writing_of (stages.Body false) i.to_head c.put_target.new.target i.head kept) (control_lent c.args.control) c.args.fields.now.lines kept c.send_request.result c.requires.start
    c.if-has_length.ensures (none_kept i.stage i.head kept (ap (λ (v : Writing). v.duty) c.self.view_is ∙ c.requires.start) c.self.invariant.stage) (ap (λ (v : Writing). v.to_head) c.self.view_is) refl c.send_request.ensures

pub returns-clause-sends : goal.returns-clause-sends
returns-clause-sends g c =
    let i = c.self.inside in
    let kept : List ℕ = drop 6 i.chunk.items in
    request_held c.args.self.now (writing_of stages.Held i.to_head c.put_target.new.target c.hold.new.head kept) (control_lent c.args.control) c.args.fields.now.lines c.hold.new.head.bytes c.requires.start
    c.if-has_length.ensures c.hold.ensures.bytes (ap (λ (v : Writing). v.to_head) c.self.view_is) refl
