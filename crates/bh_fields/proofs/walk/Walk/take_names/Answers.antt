use Rattle.std.proofs.Common.{◌≡◌, ◌<◌, ◌==◌, arith, List, [], ◌∷◌, ℕ, ◌-◌, false, length, sym, ◌∙◌, subst}
use Rattle.std.proofs.lemmas.Bool.{false≢true}
use Rattle.bh_fields.specs.declared.walk.Phase.TheVariants as phases
use Rattle.bh_fields.specs.Points.{Point, point_of}
use Rattle.bh_fields.specs.Stepping.{IsRun}
use Rattle.bh_fields.proofs.Changes.{with_lines}
use Rattle.bh_fields.proofs.Runs.{begun_by, name_run}
use Rattle.bh_fields.proofs.walk.Walk.take_names.Goals as goal

nonempty : (xs : List ℕ) → (length xs == 0) ≡ false → 0 < length xs
nonempty [] e = absurd (false≢true (sym e))
nonempty (x ∷ xs) e = omega arith

pub returns-clause-run : goal.returns-clause-run
returns-clause-run c =
    let p : Point = point_of c.args.self.now in
    let e = c.put_names.ensures in
    let inner = c.name_front-inner.result.now in
    let f = c.name_front-inner.ensures in
    subst (λ (xs : List ℕ). IsRun (phases.Name c.args.missing) p xs (phases.Name (c.args.missing - length inner)) (with_lines c.put_names.new.self p)) f.front
    (name_run inner p c.args.missing c.put_names.new.self c.requires.sized c.requires.state
    (begun_by p.fields c.begun_name.result.now c.begun_name.ensures (nonempty c.begun_name.result.now (sym c.is_empty.ensures ∙ c.if-is_empty.false))) f.each f.fewer (record { lines = e.lines; making = e.making; spare = e.spare; free = e.free }))
