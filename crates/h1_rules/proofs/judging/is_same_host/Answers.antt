use Rattle.std.proofs.Common.{sym, ◌∙◌}
use Rattle.h1_rules.proofs.Rules.{host_alone}
use Rattle.h1_rules.proofs.judging.is_same_host.Goals as goal

pub returns-then-is_empty : goal.returns-then-is_empty
returns-then-is_empty c =
    host_alone c.args.authority.now c.args.value.now c.is_authority.result (sym c.is_empty.ensures ∙ c.if-is_empty.true) c.is_authority.ensures
