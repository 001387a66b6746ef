use Rattle.std.proofs.Common.{◌≡◌, Bool, true, false, List, ℕ, drop, refl, sym, ap, ◌∙◌}
use Rattle.std.proofs.lemmas.Bool.{both_ways}
use Rattle.bh_spec.specs.Items.{of_response}
use Rattle.h1_spec.specs.Framing.{is_bodyless}
use Rattle.h1_text.specs.Owed.{says_chunks}
use Rattle.h1_text.specs.Writers.{Writing, writing_of}
use Rattle.h1_text.specs.declared.stage.Stage.TheVariants as stages
use Rattle.h1_text.proofs.HeadParts.{response_writable}
use Rattle.h1_text.proofs.Jobs.{response_sent, response_held, none_kept}
use Rattle.h1_text.proofs.writer.Http1Writer.response_head.Goals as goal

pub write_response_head-requires : goal.write_response_head-requires
write_response_head-requires g c = response_writable c.args.status c.args.fields.now.lines c.is_chunked-chunked.result c.requires.writable

pub returns-then-is_bodyless-clause-body : goal.returns-then-is_bodyless-clause-body
returns-then-is_bodyless-clause-body g c = λ some.
    let none : is_bodyless c.args.self.now.to_head c.args.status ≡ true = ap (λ (v : Writing). is_bodyless v.to_head c.args.status) (sym c.self.view_is) ∙ sym c.if-is_bodyless.ensures in
    absurd (both_ways (is_bodyless c.args.self.now.to_head c.args.status) some none)

pub returns-then-is_bodyless-clause-sends : goal.returns-then-is_bodyless-clause-sends
returns-then-is_bodyless-clause-sends g c =
    let i = c.self.inside in
    let kept : List ℕ = drop 6 i.chunk.items in
    response_held c.args.self.now (writing_of stages.Bodyless i.to_head i.target c.hold_whole.new.head kept) c.args.status c.args.fields.now.lines c.hold_whole.new.head.bytes c.requires.start
    (ap (λ (v : Writing). is_bodyless v.to_head c.args.status) (sym c.self.view_is) ∙ sym c.if-is_bodyless.ensures) c.hold_whole.ensures.bytes (ap (λ (v : Writing). v.to_head) c.self.view_is) refl

pub returns-clause-sends : goal.returns-clause-sends
returns-clause-sends g c =
    let i = c.self.inside in
    let kept : List ℕ = drop 6 i.chunk.items in
    let chunked = c.is_chunked-chunked.result in
    let same = ap (λ (v : Writing). v.to_head) c.self.view_is in
    response_sent c.args.self.now (writing_of (stages.Body chunked) i.to_head i.target i.head kept) c.args.status c.args.fields.now.lines chunked kept c.write_response_head.result c.requires.start
    (ap (λ (v : Writing). is_bodyless v.to_head c.args.status) (sym c.self.view_is) ∙ sym c.if-is_bodyless.ensures)
    (c.is_chunked-chunked.ensures ∙ ap (λ (b : Bool). says_chunks b (of_response c.args.status) c.args.fields.now.lines) same)
    (none_kept i.stage i.head kept (ap (λ (v : Writing). v.duty) c.self.view_is ∙ c.requires.start) c.self.invariant.stage) same refl c.write_response_head.ensures.wrote
