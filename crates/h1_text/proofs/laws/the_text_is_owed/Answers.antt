use Rattle.h1_text.proofs.Owes.{owes_the_text}
use Rattle.h1_text.proofs.laws.the_text_is_owed.Goals as goal

pub returns : goal.returns
returns c = owes_the_text
