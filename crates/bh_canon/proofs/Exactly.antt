-- `Done` is the end exactly where the input is a message.
use Rattle.std.proofs.Common.{length, subst}
use Rattle.bh_spec.specs.declared.Refusal.{Refusal}
use Rattle.bh_spec.specs.declared.Summary.{Summary}
use Rattle.bh_spec.specs.Reports.{summary}
use Rattle.bh_spec.specs.Answers.{whole}
use Rattle.bh_stream.specs.declared.streaming.End.{End}
use Rattle.bh_canon.specs.Telling.{IsRight}
use Rattle.bh_canon.specs.Laws.{DoneExactly}

pub done_exactly : DoneExactly
done_exactly L output r input left before now rb rn wb wn told complete nr nw = (
  λ h. let w = subst (λ (x : End Summary Refusal). IsRight L output x input told.sent) h.1 told.right in (w.message, w.omitted, w.padding, w.answer),
  λ h. (summary h.0 h.1 h.2 (length input), complete (whole h.0 h.1 h.2) h.3 nr nw),
)
