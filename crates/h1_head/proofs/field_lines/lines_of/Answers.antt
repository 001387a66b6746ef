use Rattle.std.proofs.Common.{arith}
use Rattle.h1_head.proofs.Reading.{uneven, crowded}
use Rattle.h1_head.proofs.field_lines.lines_of.Goals as goal

pub returns-then-lines-section-clause-none : goal.returns-then-lines-section-clause-none
returns-then-lines-section-clause-none c = λ fields h.
    let few = crowded c.args.section.now fields h in omega (arith, few, c.count_of-lines.ensures, c.if-lines-section.true)

pub returns-then-count_of-lines-clause-none : goal.returns-then-count_of-lines-clause-none
returns-then-count_of-lines-clause-none c = uneven c.args.section.now (λ e. omega arith)
