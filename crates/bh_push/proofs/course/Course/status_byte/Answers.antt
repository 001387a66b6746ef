use Rattle.std.proofs.Common.{◌++◌, ◌∷◌, [], get_or, refl, sym, subst, ◌∙◌}
use Rattle.std.proofs.lemmas.Bool.{false≢true}
use Rattle.bh_spec.specs.declared.Allowed.{Allowed}
use Rattle.bh_spec.specs.Integers.{SomeBegins}
use Rattle.bh_varint.specs.Step.{GoesOn, IsWhole}
use Rattle.bh_push.proofs.Responding.{least_is, status_on, status_end, status_low, status_few, status_range, status_refused, status_limited}
use Rattle.bh_push.proofs.course.Course.status_byte.Goals as goal

pub returns-in-More : goal.returns-in-More
returns-in-More c =
    let l = c.least_status-least in
    let is = least_is c.args.self.now.limits c.args.before c.interims.result l.result c.interims.ensures.value l.ensures.some l.ensures.none in
    status_on c.args.self.now _ c.args.form c.args.before l.result c.args.piece.now c.requires.stage c.requires.stage c.requires.open c.requires.some is c.in-More.ensures.kept
    (subst (λ (s : Allowed). GoesOn s (c.args.self.now.number ++ get_or c.args.piece.now 0 0 ∷ [])) c.numbers-2.ensures c.in-More.ensures.shows) refl refl refl

pub returns-in-Value : goal.returns-in-Value
returns-in-Value c =
    let l = c.least_status-least in
    let b = c.pass_status.ensures in
    let is = least_is c.args.self.now.limits c.args.before c.interims.result l.result c.interims.ensures.value l.ensures.some l.ensures.none in
    let whole = subst (λ (s : Allowed). IsWhole s (c.args.self.now.number ++ get_or c.args.piece.now 0 0 ∷ []) c.in-Value.value c.in-Value.width) c.numbers-2.ensures c.in-Value.ensures.shows in
    let range = status_range l.result c.in-Value.value c.in-Value.width (c.args.self.now.number ++ get_or c.args.piece.now 0 0 ∷ []) whole in
    status_end c.args.self.now c.pass_status.new.self c.args.form c.args.before l.result c.in-Value.value c.in-Value.width c.args.piece.now c.requires.stage c.requires.open c.requires.some is
    whole range.1 (status_low c.args.self.now.limits c.args.before l.result c.in-Value.value is range.0)
    (status_few c.args.self.now.limits c.args.before l.result c.in-Value.value is range.0) b.open b.limits b.interim b.last
    (record { head = b.same.head; outside = b.same.outside; section = b.same.section })

pub returns-in-Dead : goal.returns-in-Dead
returns-in-Dead c =
    let l = c.least_status-least in
    let is = least_is c.args.self.now.limits c.args.before c.interims.result l.result c.interims.ensures.value l.ensures.some l.ensures.none in
    status_limited c.args.self.now _ c.args.form c.args.before l.result c.args.piece.now c.requires.stage c.requires.stage c.requires.open refl refl refl refl c.requires.some is
    (subst (λ (s : Allowed). SomeBegins s (c.args.self.now.number ++ get_or c.args.piece.now 0 0 ∷ []) → ⊥) c.numbers-2.ensures c.in-Dead.ensures.shows)
    (subst (λ (s : Allowed). SomeBegins s (c.args.self.now.number ++ get_or c.args.piece.now 0 0 ∷ [])) c.numbers.ensures (c.alive-known.ensures.0 c.if-known.true))

pub returns-in-Dead-2 : goal.returns-in-Dead-2
returns-in-Dead-2 c =
    let l = c.least_status-least in
    let is = least_is c.args.self.now.limits c.args.before c.interims.result l.result c.interims.ensures.value l.ensures.some l.ensures.none in
    status_refused c.args.self.now _ c.args.form c.args.before l.result c.args.piece.now c.requires.stage c.requires.stage c.requires.open refl refl refl refl c.requires.some is
    (λ b. false≢true (sym c.if-known.false ∙ c.alive-known.ensures.1 (subst (λ (s : Allowed). SomeBegins s (c.args.self.now.number ++ get_or c.args.piece.now 0 0 ∷ [])) (sym c.numbers.ensures) b)))
