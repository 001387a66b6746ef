use Rattle.std.proofs.Common.{◌≡◌, ◌∙◌, ◌++◌, [], List, ℕ, drop, ap, sym, subst}
use Rattle.std.proofs.lemmas.Bool.{false≢true}
use Rattle.h1_body.specs.declared.trailers.TrailerStep.TheVariants as trailer
use Rattle.h1_body.specs.declared.content.Phase.TheVariants as phases
use Rattle.h1_spec.specs.BodyStates.{in_trailers}
use Rattle.h1_body.specs.Trailers.{SaysTrailers}
use Rattle.h1_body.proofs.ReaderSteps.{place_other, place_in, place_over, not_trailers, content_need, content_refused, behind_need, behind_refused, behind_whole, whole_at, need_at}
use Rattle.h1_body.proofs.reading.Reading.push.Goals as goal

pub returns-in-Whole-clause-says : goal.returns-in-Whole-clause-says
returns-in-Whole-clause-says c =
    let s = c.args.self.now in
    let phase : s.content.phase ≡ phases.Trailers = c.is_at_trailers.ensures.0 c.if-is_at_trailers.true in
    whole_at s.trailers.section _ _ (drop 2 s.trailers.head.seen) c.args.piece.now c.in-Whole.taken c.push.new.self.fields.lines
    (place_in s.content.phase s.ended (drop 2 s.trailers.head.seen) s.trailers.fields.lines phase c.requires.known.not_ended) c.in-Whole.ensures.says
    (place_over s.content.phase (drop 2 c.push.new.self.head.seen) c.push.new.self.fields.lines phase)

pub returns-in-Need-push-clause-says : goal.returns-in-Need-push-clause-says
returns-in-Need-push-clause-says c =
    let s = c.args.self.now in
    let seen : List ℕ = drop 2 s.trailers.head.seen in
    let p = s.content.phase in
    let q = c.push-2.new.self.phase in
    content_need s.trailers.section _ _ p q c.args.piece.now
    (place_other p s.ended seen s.trailers.fields.lines (λ e. false≢true (sym c.if-is_at_trailers.false ∙ c.is_at_trailers.ensures.1 e)))
    (place_other q s.ended seen s.trailers.fields.lines (not_trailers q c.in-Need-push.ensures.known.1)) c.in-Need-push.ensures.says

pub returns-in-Refused-push-clause-says : goal.returns-in-Refused-push-clause-says
returns-in-Refused-push-clause-says c =
    let s = c.args.self.now in
    let seen : List ℕ = drop 2 s.trailers.head.seen in
    let p = s.content.phase in
    content_refused s.trailers.section _ p c.args.piece.now c.in-Refused-push.cause
    (place_other p s.ended seen s.trailers.fields.lines (λ e. false≢true (sym c.if-is_at_trailers.false ∙ c.is_at_trailers.ensures.1 e))) c.in-Refused-push.ensures.says

pub returns-in-Need-push-2-clause-says : goal.returns-in-Need-push-2-clause-says
returns-in-Need-push-2-clause-says c =
    let s = c.args.self.now in
    let seen : List ℕ = drop 2 s.trailers.head.seen in
    let p = s.content.phase in
    let n : p ≡ phases.Trailers → ⊥ = λ e. false≢true (sym c.if-is_at_trailers.false ∙ c.is_at_trailers.ensures.1 e) in
    let none : seen ≡ [] = c.requires.known.begun n in
    let q = c.push-2.new.self.phase in
    let t = c.push-in-Trailers.new.self in
    let rest : List ℕ = c.behind.result.now in
    let trailing = subst (λ (z : List ℕ). SaysTrailers s.trailers.section z (drop c.in-Trailers.taken c.args.piece.now) trailer.Need t.fields.lines) none
    (subst (λ (z : List ℕ). SaysTrailers s.trailers.section seen z trailer.Need t.fields.lines) c.behind.ensures c.in-Need-push-2.ensures.says) in
    let now : drop 2 t.head.seen ≡ drop c.in-Trailers.taken c.args.piece.now =
    ap (drop 2) c.in-Need-push-2.ensures.known.seen_is ∙ ap (λ (z : List ℕ). z ++ rest) none ∙ c.behind.ensures in
    behind_need s.trailers.section _ _ p q c.args.piece.now c.in-Trailers.taken t.fields.lines (place_other p s.ended seen s.trailers.fields.lines n)
    c.in-Trailers.ensures.says trailing (place_in q s.ended (drop 2 t.head.seen) t.fields.lines c.in-Trailers.ensures.known c.requires.known.not_ended ∙ ap in_trailers now)

pub returns-in-Whole-push-clause-says : goal.returns-in-Whole-push-clause-says
returns-in-Whole-push-clause-says c =
    let s = c.args.self.now in
    let seen : List ℕ = drop 2 s.trailers.head.seen in
    let p = s.content.phase in
    let n : p ≡ phases.Trailers → ⊥ = λ e. false≢true (sym c.if-is_at_trailers.false ∙ c.is_at_trailers.ensures.1 e) in
    let none : seen ≡ [] = c.requires.known.begun n in
    let q = c.push-2.new.self.phase in
    let t = c.push-in-Trailers.new.self in
    let trailing = subst (λ (z : List ℕ). SaysTrailers s.trailers.section z (drop c.in-Trailers.taken c.args.piece.now) (trailer.Whole c.in-Whole-push.more) t.fields.lines) none
    (subst (λ (z : List ℕ). SaysTrailers s.trailers.section seen z (trailer.Whole c.in-Whole-push.more) t.fields.lines) c.behind.ensures c.in-Whole-push.ensures.says) in
    behind_whole s.trailers.section _ _ p q c.args.piece.now c.in-Trailers.taken c.in-Whole-push.more t.fields.lines (place_other p s.ended seen s.trailers.fields.lines n)
    c.in-Trailers.ensures.says trailing (place_over q (drop 2 t.head.seen) t.fields.lines c.in-Trailers.ensures.known)

pub returns-in-Refused-push-2-clause-says : goal.returns-in-Refused-push-2-clause-says
returns-in-Refused-push-2-clause-says c =
    let s = c.args.self.now in
    let seen : List ℕ = drop 2 s.trailers.head.seen in
    let p = s.content.phase in
    let n : p ≡ phases.Trailers → ⊥ = λ e. false≢true (sym c.if-is_at_trailers.false ∙ c.is_at_trailers.ensures.1 e) in
    let none : seen ≡ [] = c.requires.known.begun n in
    let q = c.push-2.new.self.phase in
    let t = c.push-in-Trailers.new.self in
    let trailing = subst (λ (z : List ℕ). SaysTrailers s.trailers.section z (drop c.in-Trailers.taken c.args.piece.now) (trailer.Refused c.in-Refused-push-2.cause) t.fields.lines) none
    (subst (λ (z : List ℕ). SaysTrailers s.trailers.section seen z (trailer.Refused c.in-Refused-push-2.cause) t.fields.lines) c.behind.ensures c.in-Refused-push-2.ensures.says) in
    behind_refused s.trailers.section _ p q c.args.piece.now c.in-Trailers.taken c.in-Refused-push-2.cause
    (place_other p s.ended seen s.trailers.fields.lines n) c.in-Trailers.ensures.says trailing

pub returns-in-Need-clause-says : goal.returns-in-Need-clause-says
returns-in-Need-clause-says c =
    let s = c.args.self.now in
    let seen : List ℕ = drop 2 s.trailers.head.seen in
    let t = c.push.new.self in
    let phase : s.content.phase ≡ phases.Trailers = c.is_at_trailers.ensures.0 c.if-is_at_trailers.true in
    let now : drop 2 t.head.seen ≡ seen ++ c.args.piece.now = ap (drop 2) c.in-Need.ensures.known.seen_is in
    need_at s.trailers.section _ _ seen c.args.piece.now t.fields.lines
    (place_in s.content.phase s.ended seen s.trailers.fields.lines phase c.requires.known.not_ended) c.in-Need.ensures.says
    (place_in s.content.phase s.ended (drop 2 t.head.seen) t.fields.lines phase c.requires.known.not_ended ∙ ap in_trailers now)
