use Rattle.std.proofs.Common.{ℕ, List, IsTrue, sym, subst}
use Rattle.std.specs.List.{All}
use Rattle.bh_spec.specs.Bytes.{is_path}
use Rattle.h1_rules.specs.Targeted.{IsSomeAuthority}
use Rattle.h1_rules.proofs.TargetLemmas.{parts_once, no_schemed}
use Rattle.h1_rules.proofs.targets.absolute.Goals as goal

pub returns-in_default-clause-none : goal.returns-in_default-clause-none
returns-in_default-clause-none c = no_schemed c.args.method.now c.args.target.now c.in_default.ensures.none

pub returns-then-not-is_some_authority-clause-none :
    goal.returns-then-not-is_some_authority-clause-none
returns-then-not-is_some_authority-clause-none c control form =
    let same = parts_once c.args.method.now c.args.target.now control form c.in-Some.scheme.now c.in-Some.behind.now c.cut_authority.result.0.now c.cut_authority.result.1.now
    c.in-Some.ensures.web c.in-Some.ensures.found c.cut_authority.ensures.whole c.cut_authority.ensures.before c.cut_authority.ensures.behind in
    let yes = c.is_some_authority.ensures.1 (subst IsSomeAuthority (sym same.0) (record { some = form.some; each = form.each })) in
    let no = c.if-not-is_some_authority.true in
    cc

pub returns-then-not-is_path-clause-none : goal.returns-then-not-is_path-clause-none
returns-then-not-is_path-clause-none c control form =
    let same = parts_once c.args.method.now c.args.target.now control form c.in-Some.scheme.now c.in-Some.behind.now c.cut_authority.result.0.now c.cut_authority.result.1.now
    c.in-Some.ensures.web c.in-Some.ensures.found c.cut_authority.ensures.whole c.cut_authority.ensures.before c.cut_authority.ensures.behind in
    let yes = c.is_path.ensures.1 (subst (λ (z : List ℕ). All (λ byte. IsTrue (is_path byte)) z) (sym same.1) form.path) in
    let no = c.if-not-is_path.true in
    cc
