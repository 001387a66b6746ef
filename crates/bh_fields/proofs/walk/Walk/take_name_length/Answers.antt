use Rattle.std.proofs.Common.{arith, ◌≡◌, ◌-◌, ◌++◌, ◌∷◌, [], Some, ℕ, List, Option, refl, sym, ap, subst, ◌∙◌}
use Rattle.bh_spec.specs.declared.Allowed.{Allowed}
use Rattle.bh_spec.specs.Integers.{SomeBegins, byte_count}
use Rattle.bh_spec.specs.Canonical.{greatest}
use Rattle.bh_varint.specs.Step.{IsWhole, GoesOn}
use Rattle.bh_spec.specs.declared.Judged.TheVariants as judged
use Rattle.bh_fields.specs.declared.walk.Phase.{Phase}
use Rattle.bh_fields.specs.declared.walk.Phase.TheVariants as phases
use Rattle.bh_fields.specs.Sets.{names_set, free_room, Refuses}
use Rattle.bh_fields.specs.Points.{Point, point_of, RestOf, NamedAt, part_of}
use Rattle.bh_fields.specs.Stepping.{IsStep}
use Rattle.bh_fields.specs.States.{NamedState}
use Rattle.bh_fields.specs.Bytewise.{Steps}
use Rattle.bh_spec.specs.declared.Part.TheVariants as parts
use Rattle.bh_spec.proofs.Widths.{count_1}
use Rattle.bh_fields.proofs.Moves.{line_more, line_step, line_whole, line_refused}
use Rattle.bh_fields.proofs.Changes.{with_number, moved, part_is}
use Rattle.bh_fields.proofs.walk.Walk.take_name_length.Goals as goal

pub returns-in-More : goal.returns-in-More
returns-in-More c =
    let p : Point = point_of c.args.self.now in
    let set : c.name_set-within.result ≡ names_set p.form (part_of p.limits) (Some (p.total - p.used)) =
    c.name_set-within.ensures ∙ ap (λ (x : ℕ). names_set p.form x (Some (p.total - p.used))) (part_is p.limits c.part.result c.part.ensures.value) in
    subst (λ (phase : Phase). IsStep judged.More phases.NameLength p c.args.byte phase (with_number c.judge.new.number p)) (sym c.requires.phase)
    (line_more p c.args.byte c.judge.new.number c.requires.sized c.requires.state
    (subst (λ (s : Allowed). GoesOn s (p.number ++ c.args.byte ∷ [])) set c.in-More.ensures.shows) c.in-More.ensures.kept)

pub returns-in-Dead : goal.returns-in-Dead
returns-in-Dead c =
    let p : Point = point_of c.args.self.now in
    let set : c.name_set-within.result ≡ names_set p.form (part_of p.limits) (Some (p.total - p.used)) =
    c.name_set-within.ensures ∙ ap (λ (x : ℕ). names_set p.form x (Some (p.total - p.used))) (part_is p.limits c.part.result c.part.ensures.value) in
    let free : c.name_set-free.result ≡ names_set p.form greatest (free_room p.form (p.total - p.used)) =
    c.name_set-free.ensures ∙ ap (λ (x : Option ℕ). names_set p.form greatest x) c.room_without_limits.ensures in
    subst (λ (x : List ℕ). Refuses (names_set p.form greatest (free_room p.form (p.total - p.used))) (x ++ c.args.byte ∷ []) c.refusal.result → IsStep c.refusal.result phases.NameLength p c.args.byte c.args.self.now.phase (with_number x p)) (sym c.in-Dead.ensures.kept)
    (line_refused p c.args.byte c.args.self.now.phase c.refusal.result c.requires.sized c.requires.state
    (λ s. c.in-Dead.ensures.shows (subst (λ (x : Allowed). SomeBegins x (p.number ++ c.args.byte ∷ [])) (sym set) s)))
    (subst (λ (x : Allowed). Refuses x (c.judge.new.number ++ c.args.byte ∷ []) c.refusal.result) free c.refusal.ensures)

pub begin_name-requires-clause-width : goal.begin_name-requires-clause-width
begin_name-requires-clause-width c = omega (arith, c.bytes.ensures, count_1 c.in-Value.width)

pub begin_name-requires-clause-state : goal.begin_name-requires-clause-state
begin_name-requires-clause-state c =
    let p : Point = point_of c.args.self.now in
    let set : c.name_set-within.result ≡ names_set p.form (part_of p.limits) (Some (p.total - p.used)) =
    c.name_set-within.ensures ∙ ap (λ (x : ℕ). names_set p.form x (Some (p.total - p.used))) (part_is p.limits c.part.result c.part.ensures.value) in
    subst (λ (w : ℕ). NamedState (with_number c.judge.new.number p) c.in-Value.value w) (sym c.bytes.ensures)
    (subst (λ (x : List ℕ). NamedState (with_number x p) c.in-Value.value (byte_count c.in-Value.width)) (sym c.in-Value.ensures.kept)
    (line_whole p c.args.byte c.in-Value.value c.in-Value.width c.requires.sized c.requires.state
    (subst (λ (s : Allowed). IsWhole s (p.number ++ c.args.byte ∷ []) c.in-Value.value c.in-Value.width) set c.in-Value.ensures.shows)))

pub returns-in-Value : goal.returns-in-Value
returns-in-Value c =
    let p : Point = point_of c.args.self.now in
    let set : c.name_set-within.result ≡ names_set p.form (part_of p.limits) (Some (p.total - p.used)) =
    c.name_set-within.ensures ∙ ap (λ (x : ℕ). names_set p.form x (Some (p.total - p.used))) (part_is p.limits c.part.result c.part.ensures.value) in
    let q : Point = with_number c.judge.new.number p in
    moved c.begin_name.result (NamedAt q c.in-Value.value c.bytes.result) phases.NameLength p q c.args.byte c.begin_name.new.self.phase (point_of c.begin_name.new.self)
    (record { limits = refl; form = refl; place = refl })
    (subst (λ (w : ℕ). Steps (RestOf phases.NameLength p) (NamedAt q c.in-Value.value w) parts.NameLength c.args.byte) (sym c.bytes.ensures)
    (line_step p c.args.byte c.in-Value.value c.in-Value.width c.judge.new.number
    (subst (λ (s : Allowed). IsWhole s (p.number ++ c.args.byte ∷ []) c.in-Value.value c.in-Value.width) set c.in-Value.ensures.shows)))
    c.begin_name.ensures
