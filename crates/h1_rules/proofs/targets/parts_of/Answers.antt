use Rattle.std.proofs.lemmas.Bool.{false≢true}
use Rattle.std.proofs.Common.{sym, ◌∙◌}
use Rattle.h1_rules.proofs.TargetLemmas.{no_form, none_weaker}
use Rattle.h1_rules.proofs.targets.parts_of.Goals as goal

pub returns-clause-none : goal.returns-clause-none
returns-clause-none c =
    none_weaker c.absolute.result
    (no_form c.args.scheme c.args.method.now c.args.target.now (λ bare. false≢true (sym c.if-is_bare.false ∙ c.is_bare.ensures.1 bare)))
    c.absolute.ensures.none
