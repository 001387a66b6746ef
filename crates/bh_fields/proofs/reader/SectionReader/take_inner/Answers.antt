use Rattle.std.proofs.Common.{ap, ◌≡◌, ◌+◌, ◌-◌, ℕ, List, take, drop, arith, subst, ◌∙◌}
use Rattle.bh_fields.specs.Middle.{SectionView}
use Rattle.bh_fields.specs.Points.{point_of}
use Rattle.bh_fields.specs.Views.{view_at}
use Rattle.bh_fields.specs.Readers.{IsOnTheWay}
use Rattle.bh_fields.proofs.Runs.{run_taken}
use Rattle.bh_fields.proofs.reader.SectionReader.take_inner.Goals as goal

pub invariant_of-self : goal.invariant_of-self
invariant_of-self c =
    let w = c.self.inside.walk in
    (run_taken (take c.take_inner.result c.behind.result.now) w.phase (point_of w) c.take_inner.new.self.phase (point_of c.take_inner.new.self) c.self.invariant
    (ap (λ (v : SectionView). v.stage) c.self.view_is ∙ c.requires.reading) c.take_inner.ensures.run).0

pub returns-clause-on : goal.returns-clause-on
returns-clause-on c =
    let w = c.self.inside.walk in
    let bytes : c.take_inner.result ≡ c.args.taken + c.take_inner.result - c.args.taken = omega arith in
    let on = (run_taken (take c.take_inner.result c.behind.result.now) w.phase (point_of w) c.take_inner.new.self.phase (point_of c.take_inner.new.self) c.self.invariant
    (ap (λ (v : SectionView). v.stage) c.self.view_is ∙ c.requires.reading) c.take_inner.ensures.run).1 in
    subst (λ (v : SectionView). IsOnTheWay v (take (c.args.taken + c.take_inner.result - c.args.taken) (drop c.args.taken c.args.piece.now)) (view_at c.take_inner.new.self.phase (point_of c.take_inner.new.self))) c.self.view_is
    (subst (λ (k : ℕ). IsOnTheWay (view_at w.phase (point_of w)) (take k (drop c.args.taken c.args.piece.now)) (view_at c.take_inner.new.self.phase (point_of c.take_inner.new.self))) bytes
    (subst (λ (xs : List ℕ). IsOnTheWay (view_at w.phase (point_of w)) (take c.take_inner.result xs) (view_at c.take_inner.new.self.phase (point_of c.take_inner.new.self))) c.behind.ensures on))
