use Rattle.std.proofs.Common.{◌++◌, ◌∷◌, [], get_or, refl, subst}
use Rattle.bh_spec.specs.declared.Allowed.{Allowed}
use Rattle.bh_spec.specs.Integers.{SomeBegins}
use Rattle.bh_varint.specs.Step.{GoesOn, IsWhole}
use Rattle.bh_push.proofs.Requesting.{framing_on, framing_end, framing_refused}
use Rattle.bh_push.proofs.course.Course.framing_byte.Goals as goal

pub returns-in-More : goal.returns-in-More
returns-in-More c =
    let g = subst (λ (s : Allowed). GoesOn s (c.args.self.now.number ++ get_or c.args.piece.now 0 0 ∷ [])) c.numbers.ensures c.in-More.ensures.shows in
    framing_on c.args.self.now _ c.args.piece.now c.requires.stage c.requires.stage c.requires.open c.requires.some c.in-More.ensures.kept g.begins g.unfinished refl refl refl

pub returns-in-Value : goal.returns-in-Value
returns-in-Value c =
    framing_end c.args.self.now c.begin_kind.new.self c.args.piece.now c.in-Value.value c.in-Value.width c.requires.stage c.requires.open c.requires.some
    (subst (λ (s : Allowed). IsWhole s (c.args.self.now.number ++ get_or c.args.piece.now 0 0 ∷ []) c.in-Value.value c.in-Value.width) c.numbers.ensures c.in-Value.ensures.shows)
    c.begin_kind.ensures.open c.begin_kind.ensures.limits c.begin_kind.ensures.follows
    (record { head = c.begin_kind.ensures.same.head; outside = c.begin_kind.ensures.same.outside; section = c.begin_kind.ensures.same.section })

pub returns-in-Dead : goal.returns-in-Dead
returns-in-Dead c =
    framing_refused c.args.self.now _ c.args.piece.now c.requires.stage c.requires.stage c.requires.open refl refl refl refl c.requires.some
    (subst (λ (s : Allowed). SomeBegins s (c.args.self.now.number ++ get_or c.args.piece.now 0 0 ∷ []) → ⊥) c.numbers.ensures c.in-Dead.ensures.shows)
