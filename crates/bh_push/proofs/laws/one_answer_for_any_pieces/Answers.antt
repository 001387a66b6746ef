use Rattle.bh_push.proofs.Feeding.{one_answer_for_any_pieces}
use Rattle.bh_push.proofs.laws.one_answer_for_any_pieces.Goals as goal

pub returns : goal.returns
returns c = one_answer_for_any_pieces
