use Rattle.std.proofs.Common.{◌≡◌, ◌∙◌, List, [], sym, subst}
use Rattle.bh_spec.specs.declared.H1Why.TheVariants as why
use Rattle.h1_spec.specs.Translation.{OfEnd}
use Rattle.h1_spec.proofs.BehindBodies.{rest_lifted}
use Rattle.h1_read.specs.declared.reader.Phase.{Phase}
use Rattle.h1_read.specs.Places.{Place}
use Rattle.h1_read.specs.Wrong.{WrongFrom}
use Rattle.h1_read.specs.Readings.{IsWhole}
use Rattle.h1_read.specs.Readers.{setting_of, IsInHead, IsInBody, IsInPhase}
use Rattle.h1_read.proofs.Standings.{at_head, at_body, ends_at, head_waits}
use Rattle.h1_read.proofs.reader.Reader.may_end.Goals as goal

pub returns-in-Head-clause-waits : goal.returns-in-Head-clause-waits
returns-in-Head-clause-waits c = λ no.
    let s = c.args.self.now in
    let n = c.in-Head.interims in
    let h : IsInHead (setting_of s) n s.heads s.body = subst (λ (p : Phase). IsInPhase p (setting_of s) s.heads s.body) c.in-Head.is c.requires.stands in
    subst (λ (p : Place). WrongFrom (setting_of s) p [] why.Ended) (sym (at_head s.phase n s.heads.seen s.judge.hops.names s.body.at c.in-Head.is))
    (head_waits (setting_of s) n s.heads s.body h c.requires.built.heads_limit)

pub returns-in-Body-clause-whole : goal.returns-in-Body-clause-whole
returns-in-Body-clause-whole c = λ yes.
    let s = c.args.self.now in
    let h : IsInBody s.body = subst (λ (p : Phase). IsInPhase p (setting_of s) s.heads s.body) c.in-Body.is c.requires.stands in
    subst (IsWhole (setting_of s)) (sym (at_body s.phase s.heads.seen s.judge.hops.names s.body.at c.in-Body.is))
    (ends_at (setting_of s) s.judge.hops.names s.body.at (sym c.may_end.ensures.may ∙ yes) h.going)

pub returns-in-Body-clause-waits : goal.returns-in-Body-clause-waits
returns-in-Body-clause-waits c = λ no.
    let s = c.args.self.now in
    let h : IsInBody s.body = subst (λ (p : Phase). IsInPhase p (setting_of s) s.heads s.body) c.in-Body.is c.requires.stands in
    subst (λ (p : Place). WrongFrom (setting_of s) p [] why.Ended) (sym (at_body s.phase s.heads.seen s.judge.hops.names s.body.at c.in-Body.is))
    (rest_lifted s.judge.limits (OfEnd s.judge.limits s.judge.hops.names) s.body.at [] why.Ended
    (c.may_end.ensures.awaits no h.unbroken s.judge.limits c.requires.built.body_limit))
