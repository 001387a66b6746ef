use Rattle.std.proofs.Common.{ℕ, List, subst, ⊎_elim}
use Rattle.h1_rules.specs.Targeted.{IsSchemed}
use Rattle.h1_rules.proofs.targets.cut_scheme.Goals as goal

pub returns-clause-none : goal.returns-clause-none
returns-clause-none c scheme rest web is =
    let P : List ℕ → Type 0 = λ s. IsSchemed s rest c.args.target.now in
    ⊎_elim (λ e. c.in_default.ensures.none rest (subst P e is)) (λ e. c.in_default-behind_scheme.ensures.none rest (subst P e is)) web
