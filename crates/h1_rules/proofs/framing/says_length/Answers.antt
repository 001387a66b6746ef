use Rattle.std.proofs.Common.{◌∙◌}
use Rattle.h1_rules.proofs.FramingLemmas.{length_says}
use Rattle.h1_rules.proofs.framing.says_length.Goals as goal

pub returns : goal.returns
returns c = c.is_some.ensures ∙ length_says c.args.fields.now.lines c.length_of.result c.length_of.ensures
