use Rattle.std.proofs.Common.{List, ℕ, ◌-◌, false, length, subst}
use Rattle.bh_fields.specs.declared.walk.Phase.TheVariants as phases
use Rattle.bh_fields.specs.Points.{Point, point_of}
use Rattle.bh_fields.specs.Stepping.{IsRun}
use Rattle.bh_fields.proofs.Bytes.{valued_point}
use Rattle.bh_fields.proofs.Runs.{value_run}
use Rattle.bh_fields.proofs.walk.Walk.take_values.Goals as goal

pub returns-clause-run : goal.returns-clause-run
returns-clause-run c =
    let p : Point = point_of c.args.self.now in
    let e = c.put_values.ensures in
    let inner = c.value_front-inner.result.now in
    let f = c.value_front-inner.ensures in
    subst (λ (xs : List ℕ). IsRun (phases.Value c.args.missing false) p xs (phases.Value (c.args.missing - length inner) false) (valued_point c.put_values.new.self p)) f.front
    (value_run inner p c.args.missing c.put_values.new.self c.requires.sized c.requires.state f.each f.fewer (record { lines = e.lines; making = e.making; spare = e.spare; free = e.free }))
