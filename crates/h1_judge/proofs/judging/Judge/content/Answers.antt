use Rattle.std.proofs.Common.{sym, subst}
use Rattle.h1_judge.specs.Judges.{course_of, IsLastJudged}
use Rattle.h1_judge.proofs.Counting.{within, too_far, none_may, any_may}
use Rattle.h1_judge.proofs.judging.Judge.content.Goals as goal

pub returns-then-field-self-clause-counts : goal.returns-then-field-self-clause-counts
returns-then-field-self-clause-counts c =
    let j = c.args.self.now in
    subst (IsLastJudged j.to_head (course_of j) c.args.bytes.now) (sym c.differs.ensures)
    (too_far j.to_head j.framing c.in-Counted.field j.counted j.hops.names c.args.bytes.now c.in-Counted.is c.requires.counting c.requires.short c.requires.some c.if-field-self.true)

pub returns-in-Empty-clause-counts : goal.returns-in-Empty-clause-counts
returns-in-Empty-clause-counts c =
    let j = c.args.self.now in
    none_may j.to_head j.framing j.counted j.hops.names c.args.bytes.now c.in-Empty.is c.requires.short c.requires.some

pub returns-else-field-self-clause-counts : goal.returns-else-field-self-clause-counts
returns-else-field-self-clause-counts c =
    let j = c.args.self.now in
    within j.to_head j.framing c.in-Counted.field j.counted j.hops.names c.args.bytes.now c.in-Counted.is c.requires.counting c.if-field-self.false

pub returns-in-Chunked-clause-counts : goal.returns-in-Chunked-clause-counts
returns-in-Chunked-clause-counts c =
    let j = c.args.self.now in
    any_may j.to_head j.framing j.counted j.hops.names c.args.bytes.now c.in-Chunked.is
