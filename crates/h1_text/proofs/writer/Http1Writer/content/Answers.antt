use Rattle.std.proofs.Common.{◌≡◌, Bool, true, List, ℕ, drop, refl, sym, ap, subst, ◌∙◌}
use Rattle.h1_text.specs.Owed.{Duty, in_body, head_held}
use Rattle.h1_text.specs.Writers.{Writing, writing_of, duty_of, MayHaveBody}
use Rattle.h1_text.specs.declared.stage.Stage.{Stage}
use Rattle.h1_text.specs.declared.stage.Stage.TheVariants as stages
use Rattle.h1_text.proofs.Jobs.{content_kept, head_failed, head_first, is_held, held_empty}
use Rattle.h1_text.proofs.writer.Http1Writer.content.Goals as goal

pub returns-in-Body-clause-sends : goal.returns-in-Body-clause-sends
returns-in-Body-clause-sends g c =
    let i = c.self.inside in
    let kept : List ℕ = drop 6 i.chunk.items in
    let keeps : List ℕ = drop 6 c.keep.new.chunk.items in
    let stage_is : (more : List ℕ) → duty_of i.stage i.head.bytes more ≡ in_body c.in-Body.chunked more = λ more. ap (λ (st : Stage). duty_of st i.head.bytes more) c.in-Body.is in
    content_kept c.args.self.now (writing_of i.stage i.to_head i.target i.head keeps) c.in-Body.chunked kept c.args.bytes.now keeps c.keep.result
    (sym (ap (λ (v : Writing). v.duty) c.self.view_is) ∙ stage_is kept) (ap (λ (v : Writing). v.to_head) c.self.view_is) (stage_is keeps) c.keep.ensures.keeps

pub returns-in_err-send_head-clause-sends : goal.returns-in_err-send_head-clause-sends
returns-in_err-send_head-clause-sends g c =
    let i = c.self.inside in
    let kept : List ℕ = drop 6 i.chunk.items in
    let duty : duty_of i.stage i.head.bytes kept ≡ c.args.self.now.duty = ap (λ (v : Writing). v.duty) c.self.view_is in
    let stage = is_held i.stage i.head.bytes kept c.in_default.not-Body (subst MayHaveBody (sym duty) c.requires.place) in
    head_failed c.args.self.now (writing_of (stages.Body true) i.to_head i.target c.send_head.new.head kept) i.head.bytes c.args.bytes.now c.send_head.result c.from_residual.result
    (sym duty ∙ ap (λ (st : Stage). duty_of st i.head.bytes kept) stage) c.requires.some c.in_err-send_head.was c.from_residual.ensures.0 c.send_head.ensures.sends

pub returns-clause-sends : goal.returns-clause-sends
returns-clause-sends g c =
    let i = c.self.inside in
    let kept : List ℕ = drop 6 i.chunk.items in
    let keeps : List ℕ = drop 6 c.keep-2.new.chunk.items in
    let duty : duty_of i.stage i.head.bytes kept ≡ c.args.self.now.duty = ap (λ (v : Writing). v.duty) c.self.view_is in
    let stage = is_held i.stage i.head.bytes kept c.in_default.not-Body (subst MayHaveBody (sym duty) c.requires.place) in
    head_first c.args.self.now (writing_of (stages.Body true) i.to_head i.target c.send_head.new.head keeps) i.head.bytes kept c.args.bytes.now keeps c.send_head.result c.keep-2.result
    (sym duty ∙ ap (λ (st : Stage). duty_of st i.head.bytes kept) stage) (held_empty i.stage i.head kept stage c.self.invariant.stage).0 c.requires.some (ap (λ (v : Writing). v.to_head) c.self.view_is) refl
    c.in_ok-send_head.was c.send_head.ensures.sends c.keep-2.ensures.keeps
