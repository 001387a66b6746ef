use Rattle.std.proofs.Common.{sym, ◌∙◌}
use Rattle.h1_rules.proofs.HopLemmas.{piece_held}
use Rattle.h1_rules.proofs.hops.add_name.Goals as goal

pub returns-then-is_hop-clause-names : goal.returns-then-is_hop-clause-names
returns-then-is_hop-clause-names c =
    piece_held c.args.names.now.items c.push_name.new.names.items c.args.piece.now c.trim-word.result.now c.push_name.ensures.items c.trim-word.ensures.trimmed
    (sym c.is_word.ensures ∙ c.if-is_word.true) (sym c.is_hop.ensures ∙ c.if-is_hop.true)
