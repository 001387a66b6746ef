use Rattle.std.proofs.Common.{◌≡◌, ℕ, List, true, false, bytes_eq, not, codes, sym, ap, subst, ◌∙◌}
use Rattle.h1_rules.proofs.Values.{value_here, value_later}
use Rattle.h1_text.specs.Owed.{is_none}
use Rattle.h1_text.proofs.heads.has_length.Goals as goal

pub returns-then-eq : goal.returns-then-eq
returns-then-eq c =
    let same = subst (λ (n : List ℕ). bytes_eq c.line.result.0.now n ≡ true) c.as_slice.ensures (sym c.eq.ensures ∙ c.if-eq.true) in
    sym
    (ap not
    (c.loop-i.invariant
    ∙ ap is_none (value_here (codes "content-length") c.args.fields.now.lines c.loop-i.i (record { name = c.line.result.0.now; value = c.line.result.1.now }) c.line.ensures.line same)))

pub loop-i-preserved : goal.loop-i-preserved
loop-i-preserved c =
    let other = subst (λ (n : List ℕ). bytes_eq c.line.result.0.now n ≡ false) c.as_slice.ensures (sym c.eq.ensures ∙ c.if-eq.false) in
    c.loop-i.invariant
    ∙ ap is_none (value_later (codes "content-length") c.args.fields.now.lines c.loop-i.i (record { name = c.line.result.0.now; value = c.line.result.1.now }) c.line.ensures.line other)
