use Rattle.std.proofs.Common.{rules}
use Rattle.h1_rules.proofs.HopLemmas.{word_by}
use Rattle.h1_rules.proofs.hops.is_word.Goals as goal

pub returns-then-not-is_empty : goal.returns-then-not-is_empty
returns-then-not-is_empty c = word_by c.args.bytes.now c.are_token_bytes.result (search rules) c.are_token_bytes.ensures
