use Rattle.std.proofs.Common.{◌∙◌, sym}
use Rattle.h1_read.proofs.BodyPlaces.{some_piece, over_refuses}
use Rattle.h1_read.proofs.reader.behind.Goals as goal

pub returns-else-is_empty : goal.returns-else-is_empty
returns-else-is_empty c = λ S p v h. over_refuses S p c.args.piece.now (some_piece c.args.piece.now (sym c.is_empty.ensures ∙ c.if-is_empty.false)) h
