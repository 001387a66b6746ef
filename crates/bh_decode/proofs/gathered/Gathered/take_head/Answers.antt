use Rattle.std.proofs.Common.{refl, ap, ◌∙◌}
use Rattle.bh_push.specs.Hands.{control_shown, status_shown}
use Rattle.bh_decode.proofs.Gathering.{adds_head, shown_lines, shown_ended}
use Rattle.bh_decode.proofs.gathered.Gathered.take_head.Goals as goal

pub returns : goal.returns
returns c = λ of fields e f.
    adds_head c.args.self.now _ of fields (c.in_ok-control.ensures ∙ c.control.ensures ∙ ap control_shown e) (c.status-self.ensures ∙ ap status_shown e)
    (c.in_ok-fields.ensures.lines ∙ shown_lines c.args.decoder.now.lines c.fields.result.now.lines fields f c.fields.ensures.lines)
    (c.in_ok-fields.ensures.making ∙ shown_ended c.args.decoder.now.lines c.fields.result.now fields f c.fields.ensures.whole) refl refl refl
