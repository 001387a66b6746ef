use Rattle.std.proofs.Common.{◌≡◌, ◌+◌, ◌-◌, ◌++◌, ◌∷◌, [], Some, true, ℕ, List, Option, refl, sym, ap, subst, ◌∙◌}
use Rattle.bh_spec.specs.declared.Allowed.{Allowed}
use Rattle.bh_spec.specs.Integers.{SomeBegins, byte_count}
use Rattle.bh_spec.specs.Canonical.{greatest}
use Rattle.bh_varint.specs.Step.{IsWhole, GoesOn}
use Rattle.bh_spec.specs.declared.Judged.TheVariants as judged
use Rattle.bh_fields.specs.declared.walk.Phase.{Phase}
use Rattle.bh_fields.specs.declared.walk.Phase.TheVariants as phases
use Rattle.bh_fields.specs.Sets.{values_set, free_room, Refuses}
use Rattle.bh_fields.specs.Points.{Point, point_of, RestOf, part_of}
use Rattle.bh_fields.specs.Stepping.{IsStep}
use Rattle.bh_fields.specs.States.{InValue}
use Rattle.bh_fields.specs.Bytewise.{Steps}
use Rattle.bh_spec.specs.declared.Part.TheVariants as parts
use Rattle.bh_fields.proofs.Moves.{value_length_more, value_length_step, value_length_whole, value_length_refused}
use Rattle.bh_fields.proofs.Changes.{with_number, of_used, moved, part_is}
use Rattle.bh_fields.proofs.walk.Walk.take_value_length.Goals as goal

pub returns-in-More : goal.returns-in-More
returns-in-More c =
    let p : Point = point_of c.args.self.now in
    let set : c.value_set-within.result ≡ values_set p.form (part_of p.limits) (Some (p.total - p.used)) =
    c.value_set-within.ensures ∙ ap (λ (x : ℕ). values_set p.form x (Some (p.total - p.used))) (part_is p.limits c.part.result c.part.ensures.value) in
    subst (λ (phase : Phase). IsStep judged.More phases.ValueLength p c.args.byte phase (with_number c.judge.new.number p)) (sym c.requires.phase)
    (value_length_more p c.args.byte c.judge.new.number c.requires.sized c.requires.state
    (subst (λ (s : Allowed). GoesOn s (p.number ++ c.args.byte ∷ [])) set c.in-More.ensures.shows) c.in-More.ensures.kept)

pub returns-in-Dead : goal.returns-in-Dead
returns-in-Dead c =
    let p : Point = point_of c.args.self.now in
    let set : c.value_set-within.result ≡ values_set p.form (part_of p.limits) (Some (p.total - p.used)) =
    c.value_set-within.ensures ∙ ap (λ (x : ℕ). values_set p.form x (Some (p.total - p.used))) (part_is p.limits c.part.result c.part.ensures.value) in
    let free : c.value_set-free.result ≡ values_set p.form greatest (free_room p.form (p.total - p.used)) =
    c.value_set-free.ensures ∙ ap (λ (x : Option ℕ). values_set p.form greatest x) c.room_without_limits.ensures in
    subst (λ (x : List ℕ). Refuses (values_set p.form greatest (free_room p.form (p.total - p.used))) (x ++ c.args.byte ∷ []) c.refusal.result → IsStep c.refusal.result phases.ValueLength p c.args.byte c.args.self.now.phase (with_number x p)) (sym c.in-Dead.ensures.kept)
    (value_length_refused p c.args.byte c.args.self.now.phase c.refusal.result c.requires.sized c.requires.state
    (λ s. c.in-Dead.ensures.shows (subst (λ (x : Allowed). SomeBegins x (p.number ++ c.args.byte ∷ [])) (sym set) s)))
    (subst (λ (x : Allowed). Refuses x (c.judge.new.number ++ c.args.byte ∷ []) c.refusal.result) free c.refusal.ensures)

pub begin_value-requires-clause-state : goal.begin_value-requires-clause-state
begin_value-requires-clause-state c =
    let p : Point = point_of c.args.self.now in
    let set : c.value_set-within.result ≡ values_set p.form (part_of p.limits) (Some (p.total - p.used)) =
    c.value_set-within.ensures ∙ ap (λ (x : ℕ). values_set p.form x (Some (p.total - p.used))) (part_is p.limits c.part.result c.part.ensures.value) in
    let n = c.in-Value.value in
    subst (λ (w : ℕ). InValue (of_used (p.used + (w + n)) (with_number c.judge.new.number p)) [] n) (sym c.bytes.ensures)
    (subst (λ (x : List ℕ). InValue (of_used (p.used + (byte_count c.in-Value.width + n)) (with_number x p)) [] n) (sym c.in-Value.ensures.kept)
    (value_length_whole p c.args.byte n c.in-Value.width c.requires.sized c.requires.state
    (subst (λ (s : Allowed). IsWhole s (p.number ++ c.args.byte ∷ []) n c.in-Value.width) set c.in-Value.ensures.shows)))

pub returns-in-Value : goal.returns-in-Value
returns-in-Value c =
    let p : Point = point_of c.args.self.now in
    let set : c.value_set-within.result ≡ values_set p.form (part_of p.limits) (Some (p.total - p.used)) =
    c.value_set-within.ensures ∙ ap (λ (x : ℕ). values_set p.form x (Some (p.total - p.used))) (part_is p.limits c.part.result c.part.ensures.value) in
    let n = c.in-Value.value in
    let q : Point = of_used (p.used + (c.bytes.result + n)) (with_number c.judge.new.number p) in
    moved c.begin_value.result (RestOf (phases.Value n true) q) phases.ValueLength p q c.args.byte c.begin_value.new.self.phase (point_of c.begin_value.new.self)
    (record { limits = refl; form = refl; place = refl })
    (subst (λ (w : ℕ). Steps (RestOf phases.ValueLength p) (RestOf (phases.Value n true) (of_used (p.used + (w + n)) (with_number c.judge.new.number p))) parts.ValueLength c.args.byte) (sym c.bytes.ensures)
    (value_length_step p c.args.byte n c.in-Value.width c.judge.new.number c.requires.state
    (subst (λ (s : Allowed). IsWhole s (p.number ++ c.args.byte ∷ []) n c.in-Value.width) set c.in-Value.ensures.shows)))
    c.begin_value.ensures
