use Rattle.std.proofs.Common.{arith, ℕ, subst, sym}
use Rattle.bh_spec.specs.declared.Judged.TheVariants as judged
use Rattle.bh_fields.specs.declared.walk.Phase.TheVariants as phases
use Rattle.bh_fields.specs.Points.{Point, point_of, NamedAt}
use Rattle.bh_fields.specs.Stepping.{Moves}
use Rattle.bh_fields.specs.States.{NamedState}
use Rattle.bh_fields.proofs.Moves.{named_whole}
use Rattle.bh_fields.proofs.Bytes.{name_begun, start_fits}
use Rattle.bh_fields.proofs.walk.Walk.begin_name.Goals as goal

pub start_line-requires-clause-spare : goal.start_line-requires-clause-spare
start_line-requires-clause-spare c =
    (start_fits (point_of c.args.self.now) c.args.long c.args.width c.requires.sized c.requires.state (omega arith) c.requires.width).0

pub start_line-requires-clause-free : goal.start_line-requires-clause-free
start_line-requires-clause-free c =
    (start_fits (point_of c.args.self.now) c.args.long c.args.width c.requires.sized c.requires.state (omega arith) c.requires.width).1

pub returns-then-long-eq0 : goal.returns-then-long-eq0
returns-then-long-eq0 c =
    let p : Point = point_of c.args.self.now in
    subst (λ (n : ℕ). Moves judged.Whole (NamedAt p n c.args.width) p phases.Whole p) (sym c.if-long-eq0.true)
    (named_whole p c.args.width c.requires.sized (subst (λ (n : ℕ). NamedState p n c.args.width) c.if-long-eq0.true c.requires.state))

pub returns : goal.returns
returns c =
    let p : Point = point_of c.args.self.now in
    let e = c.start_line.ensures in
    name_begun p c.args.long c.args.width c.start_line.new.self c.requires.sized c.requires.state (omega arith) c.requires.width
    (record { lines = e.lines; making = e.making; spare = e.spare; free = e.free })
