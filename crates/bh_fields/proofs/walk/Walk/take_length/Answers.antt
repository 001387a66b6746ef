use Rattle.std.proofs.Common.{◌≡◌, ◌++◌, ◌∷◌, [], ℕ, List, refl, sym, ap, subst, ◌∙◌}
use Rattle.bh_spec.specs.declared.Allowed.{Allowed}
use Rattle.bh_spec.specs.Integers.{SomeBegins}
use Rattle.bh_varint.specs.Step.{IsWhole, GoesOn}
use Rattle.bh_spec.specs.declared.Judged.TheVariants as judged
use Rattle.bh_fields.specs.declared.walk.Phase.{Phase}
use Rattle.bh_fields.specs.declared.walk.Phase.TheVariants as phases
use Rattle.bh_spec.specs.Canonical.{greatest}
use Rattle.bh_fields.specs.Sets.{lines_set, Refuses}
use Rattle.bh_fields.specs.Points.{Point, point_of, most_of, LinesAt}
use Rattle.bh_fields.specs.Stepping.{IsStep}
use Rattle.bh_fields.specs.States.{NextState}
use Rattle.bh_fields.proofs.Moves.{length_more, length_step, length_whole, length_refused}
use Rattle.bh_fields.proofs.Changes.{with_number, of_total, moved, most_is}
use Rattle.bh_fields.proofs.walk.Walk.take_length.Goals as goal

pub next_line-requires-clause-state : goal.next_line-requires-clause-state
next_line-requires-clause-state c =
    let p : Point = point_of c.args.self.now in
    let set : c.length_set-within.result ≡ lines_set (most_of p.limits) = c.length_set-within.ensures ∙ ap lines_set (most_is p.limits c.section.result c.section.ensures.value) in
    subst (λ (x : List ℕ). NextState (of_total c.in-Value.value (with_number x p))) (sym c.in-Value.ensures.kept)
    (length_whole p c.args.byte c.in-Value.value c.in-Value.width c.requires.sized c.requires.state
    (subst (λ (s : Allowed). IsWhole s (p.number ++ c.args.byte ∷ []) c.in-Value.value c.in-Value.width) set c.in-Value.ensures.shows))

pub returns-in-More : goal.returns-in-More
returns-in-More c =
    let p : Point = point_of c.args.self.now in
    let set : c.length_set-within.result ≡ lines_set (most_of p.limits) = c.length_set-within.ensures ∙ ap lines_set (most_is p.limits c.section.result c.section.ensures.value) in
    subst (λ (phase : Phase). IsStep judged.More phases.SectionLength p c.args.byte phase (with_number c.judge.new.number p)) (sym c.requires.phase)
    (length_more p c.args.byte c.judge.new.number c.requires.sized c.requires.state
    (subst (λ (s : Allowed). GoesOn s (p.number ++ c.args.byte ∷ [])) set c.in-More.ensures.shows) c.in-More.ensures.kept)

pub returns-in-Value : goal.returns-in-Value
returns-in-Value c =
    let p : Point = point_of c.args.self.now in
    let set : c.length_set-within.result ≡ lines_set (most_of p.limits) = c.length_set-within.ensures ∙ ap lines_set (most_is p.limits c.section.result c.section.ensures.value) in
    let q : Point = of_total c.in-Value.value (with_number c.judge.new.number p) in
    moved c.next_line.result (LinesAt q) phases.SectionLength p q c.args.byte c.next_line.new.self.phase (point_of c.next_line.new.self)
    (record { limits = refl; form = refl; place = refl })
    (length_step p c.args.byte c.in-Value.value c.in-Value.width c.judge.new.number
    (subst (λ (s : Allowed). IsWhole s (p.number ++ c.args.byte ∷ []) c.in-Value.value c.in-Value.width) set c.in-Value.ensures.shows))
    c.next_line.ensures

pub returns-in-Dead : goal.returns-in-Dead
returns-in-Dead c =
    let p : Point = point_of c.args.self.now in
    let set : c.length_set-within.result ≡ lines_set (most_of p.limits) = c.length_set-within.ensures ∙ ap lines_set (most_is p.limits c.section.result c.section.ensures.value) in
    subst (λ (x : List ℕ). Refuses (lines_set greatest) (x ++ c.args.byte ∷ []) c.refusal.result → IsStep c.refusal.result phases.SectionLength p c.args.byte c.args.self.now.phase (with_number x p)) (sym c.in-Dead.ensures.kept)
    (length_refused p c.args.byte c.args.self.now.phase c.refusal.result c.requires.sized c.requires.state
    (λ s. c.in-Dead.ensures.shows (subst (λ (x : Allowed). SomeBegins x (p.number ++ c.args.byte ∷ [])) (sym set) s)))
    (subst (λ (x : Allowed). Refuses x (c.judge.new.number ++ c.args.byte ∷ []) c.refusal.result) c.length_set-free.ensures c.refusal.ensures)
