use Rattle.std.proofs.Common.{[], append-nil, refl}
use Rattle.bh_encode.proofs.Sending.{wrote, sent_as, cut_as, sent_on, cut_on}
use Rattle.bh_canonical.proofs.sending.send_end.Goals as goal

pub returns-in-Ok-finish : goal.returns-in-Ok-finish
returns-in-Ok-finish g c = sent_as refl (sent_on c.in-Ok-Content.ensures.sends (wrote c.in-Ok-finish.ensures.wrote))

pub returns-in-Err-finish : goal.returns-in-Err-finish
returns-in-Err-finish g c = cut_as [] (append-nil _) (cut_on c.in-Ok-Content.ensures.sends (wrote c.in-Err-finish.ensures.wrote))
