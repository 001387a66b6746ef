use Rattle.std.proofs.Common.{arith, ◌∙◌, ◌-◌, ℕ, refl, sym, subst, ap, length, take}
use Rattle.std.proofs.lemmas.Bool.{false≢true}
use Rattle.h1_spec.specs.Heads.{HoldsNoEnd}
use Rattle.h1_head.specs.Ends.{ReaderView, IsWhole, IsPast, IsOpen}
use Rattle.h1_head.proofs.Ending.{step_whole, step_past, step_open}
use Rattle.h1_head.proofs.reader.HeadReader.push.Goals as goal

pub gather-requires-clause-open : goal.gather-requires-clause-open
gather-requires-clause-open c = subst (λ (v : ReaderView). HoldsNoEnd v.seen) (sym c.self.view_is) c.requires

pub returns-in-Some-clause-step : goal.returns-in-Some-clause-step
returns-in-Some-clause-step c =
    let old = c.self.inside.seen.items in
    let limit = c.self.inside.limit in
    let room = c.first.ensures ∙ ap (λ (n : ℕ). take (limit - n) c.args.piece.now) (c.len.ensures ∙ c.self.inside.seen.ok.0) in
    subst (λ (v : ReaderView). IsWhole v c.args.piece.now c.in-Some.taken (record { seen = c.gather.new.seen.items; limit = limit })) c.self.view_is
    (step_whole old c.args.piece.now c.first.result.now c.gather.new.seen.items limit c.in-Some.taken
    (let w = c.self.invariant.within in let n = c.self.inside.seen.ok.0 in omega arith)
    room c.in-Some.ensures.within c.in-Some.ensures.some c.in-Some.ensures.ends)

pub returns-then-is_full-clause-step : goal.returns-then-is_full-clause-step
returns-then-is_full-clause-step c =
    let old = c.self.inside.seen.items in
    let limit = c.self.inside.limit in
    let room = c.first.ensures ∙ ap (λ (n : ℕ). take (limit - n) c.args.piece.now) (c.len.ensures ∙ c.self.inside.seen.ok.0) in
    subst (λ (v : ReaderView). IsPast v c.args.piece.now (record { seen = c.gather.new.seen.items; limit = limit })) c.self.view_is
    (step_past old c.args.piece.now c.first.result.now c.gather.new.seen.items limit room c.in_default.ensures.all c.in_default.ensures.none
    (sym (ap (length {A = ℕ}) c.deref.ensures.value) ∙ c.if-is_full.ensures.0 refl))

pub returns-clause-step : goal.returns-clause-step
returns-clause-step c =
    let old = c.self.inside.seen.items in
    let limit = c.self.inside.limit in
    let room = c.first.ensures ∙ ap (λ (n : ℕ). take (limit - n) c.args.piece.now) (c.len.ensures ∙ c.self.inside.seen.ok.0) in
    subst (λ (v : ReaderView). IsOpen v c.args.piece.now (record { seen = c.gather.new.seen.items; limit = limit })) c.self.view_is
    (step_open old c.args.piece.now c.first.result.now c.gather.new.seen.items limit
    (let w = c.self.invariant.within in let n = c.self.inside.seen.ok.0 in omega arith)
    room c.in_default.ensures.all c.in_default.ensures.none
    (λ full. false≢true (c.if-is_full.ensures.1 (ap (length {A = ℕ}) c.deref.ensures.value ∙ full))))
