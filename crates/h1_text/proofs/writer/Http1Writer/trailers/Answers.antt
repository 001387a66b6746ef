use Rattle.std.proofs.Common.{◌≡◌, List, ℕ, drop, refl, sym, ap, ◌∙◌}
use Rattle.h1_text.specs.Owed.{Duty, all_done}
use Rattle.h1_text.specs.Ends.{end_out}
use Rattle.h1_text.specs.Writers.{Writing, writing_of, duty_of}
use Rattle.h1_text.specs.declared.stage.Stage.{Stage}
use Rattle.h1_text.proofs.Jobs.{trailers_sent}
use Rattle.h1_text.proofs.Sending.{goes_as}
use Rattle.h1_text.proofs.writer.Http1Writer.trailers.Goals as goal

pub returns : goal.returns
returns g c =
    let i = c.self.inside in
    let kept : List ℕ = drop 6 i.chunk.items in
    let fields = c.args.fields.now.lines in
    let kept_is : c.content_of-kept.result.now ≡ kept = c.content_of-kept.ensures ∙ ap (drop 6) c.deref.ensures.value in
    let duty : duty_of i.stage i.head.bytes kept ≡ c.args.self.now.duty = ap (λ (v : Writing). v.duty) c.self.view_is in
    trailers_sent c.args.self.now (writing_of c.replace-stage.new.dest i.to_head i.target c.send_end.new.head kept) i.stage i.head kept fields c.send_end.result (sym duty) c.requires.place
    (ap (λ (v : Writing). v.to_head) c.self.view_is) (ap (λ (st : Stage). duty_of st c.send_end.new.head.bytes kept) c.replace-stage.ensures.after)
    (goes_as (end_out c.replace-stage.result i.head.bytes c.content_of-kept.result.now fields) (end_out i.stage i.head.bytes kept fields) c.send_end.result
    (λ j. end_out (c.replace-stage.ensures.value j) i.head.bytes (kept_is j) fields) c.send_end.ensures.sends)
