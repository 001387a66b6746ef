use Rattle.std.proofs.Common.{◌≡◌, ◌∙◌, ◌<◌, ℕ, Some, List, [], map, take, ap, sym, subst}
use Rattle.std.proofs.lemmas.Bool.{false≢true}
use Rattle.std.proofs.lemmas.List.Elements.{All-from_get_or}
use Rattle.bh_spec.specs.Bytes.{AreBytes}
use Rattle.bh_spec.specs.Messages.{Field}
use Rattle.bh_spec.specs.Canonical.{FieldsFit}
use Rattle.bh_spec.specs.Items.{content_byte}
use Rattle.h1_spec.specs.Cleaning.{clean_trailers}
use Rattle.h1_read.specs.declared.reader.Phase.{Phase}
use Rattle.bh_stream.specs.declared.traits.Event.TheVariants as events
use Rattle.h1_spec.specs.BodyStates.{At, in_count, over, trailers_of, Moves}
use Rattle.h1_body.specs.Trailers.{IsEnded}
use Rattle.h1_read.specs.HeadJudges.{view_of, AreTrailers}
use Rattle.h1_read.specs.Places.{Place, in_body}
use Rattle.h1_read.specs.Readers.{setting_of, IsInPhase, NeedsAt, TookAt, IsOver, Steps}
use Rattle.h1_read.proofs.BodyPlaces.{counted_over, body_wrong, trailers_wrong}
use Rattle.h1_read.proofs.Standings.{at_body, counted_out, body_needs, content_took, content_few, over_again, trailers_took}
use Rattle.h1_read.proofs.reader.Reader.content.Goals as goal

pub returns-then-is_whole-clause-steps : goal.returns-then-is_whole-clause-steps
returns-then-is_whole-clause-steps c =
    let s = c.args.self.now in
    let at = counted_out s.body.at (sym c.is_whole.ensures ∙ c.if-is_whole.true) c.requires.stands.going in
    let here : Place = in_body s.judge.hops.names s.body.at in
    subst (λ (p : Place). Steps (setting_of s) here c.args.piece.now c.behind.result p (view_of s.judge))
    (sym (at_body s.phase s.heads.seen s.judge.hops.names s.body.at c.requires.phase))
    (c.behind.ensures (setting_of s) here (view_of s.judge)
    (subst (λ (a : At). IsOver (setting_of s) (in_body s.judge.hops.names a)) (sym at) (counted_over (setting_of s) s.judge.hops.names)))

pub trailers-requires-in-Whole-clause-trailers : goal.trailers-requires-in-Whole-clause-trailers
trailers-requires-in-Whole-clause-trailers c =
    let s = c.args.self.now in
    let ended = c.in-Whole.ensures.says.3 in
    subst (λ (lines : List Field). AreTrailers s.judge.limits lines) (sym (c.trailers.ensures.lines c.in-Whole.ensures.refused)) (ended.bytes, ended.read s.judge.limits c.requires.built.body_limit)

pub returns-then-not-trailers-clause-steps : goal.returns-then-not-trailers-clause-steps
returns-then-not-trailers-clause-steps c =
    let s = c.args.self.now in
    let w = c.push.new.self.at in
    let says = c.in-Whole.ensures.says in
    let L = s.judge.limits in
    let named = s.judge.hops.names in
    let lines : (view_of c.trailers-in-Whole.new.self).lines ≡ clean_trailers named (trailers_of w)
    = c.trailers-in-Whole.ensures.cleaned.lines ∙ ap (clean_trailers named) (c.trailers.ensures.lines c.in-Whole.ensures.refused) in
    trailers_wrong (setting_of s) named s.body.at c.args.piece.now s.body.section c.in-Whole.taken (trailers_of w) c.requires.built.body_limit says.0
    (subst (λ (u : At). Moves L s.body.at (take c.in-Whole.taken c.args.piece.now) [] u) (over_again w says.1.0 says.1.1) (says.2 L c.requires.built.body_limit)) says.3
    (λ f. false≢true (sym c.if-not-trailers.true ∙ c.trailers-in-Whole.ensures.fits.1 (subst (FieldsFit L) (sym lines) f)))

pub returns-in-Need-clause-stands : goal.returns-in-Need-clause-stands
returns-in-Need-clause-stands c =
    let s = c.args.self.now in
    subst (λ (p : Phase). IsInPhase p (setting_of s) s.heads c.push.new.self) (sym c.requires.phase) (record { unbroken = c.in-Need.ensures.refused; going = c.in-Need.ensures.going })

pub returns-in-Need-clause-steps : goal.returns-in-Need-clause-steps
returns-in-Need-clause-steps c =
    let s = c.args.self.now in
    subst (λ (p : Place). NeedsAt (setting_of s) (in_body s.judge.hops.names s.body.at) c.args.piece.now p)
    (sym (at_body s.phase s.heads.seen s.judge.hops.names c.push.new.self.at c.requires.phase))
    (body_needs (setting_of s) s.judge.hops.names s.body.at c.push.new.self.at c.args.piece.now s.body.section c.requires.built.body_limit c.in-Need.ensures.says)

pub returns-in-Content-clause-steps : goal.returns-in-Content-clause-steps
returns-in-Content-clause-steps c =
    let s = c.args.self.now in
    let says = c.in-Content.ensures.says in
    let piece : List ℕ = c.args.piece.now in (
      subst (λ (p : Place). TookAt (setting_of s) (in_body s.judge.hops.names s.body.at) piece c.in-Content.taken (map content_byte c.in-Content.bytes.now) p)
          (sym (at_body s.phase s.heads.seen s.judge.hops.names c.push.new.self.at c.requires.phase))
          (content_took (setting_of s) s.judge.hops.names s.body.at c.push.new.self.at piece c.in-Content.bytes.now c.in-Content.taken c.requires.built.limits
          (All-from_get_or (λ (x : ℕ). x < 256) piece 0 (λ k inside. (c.type_inv.piece k).fits)) says),
      says.some,
      content_few s.body.at c.push.new.self.at piece c.in-Content.bytes.now c.in-Content.taken says,
    )

pub returns-else-not-trailers-clause-steps : goal.returns-else-not-trailers-clause-steps
returns-else-not-trailers-clause-steps c =
    let s = c.args.self.now in
    let w = c.push.new.self.at in
    let named = s.judge.hops.names in
    let j = view_of c.trailers-in-Whole.new.self in
    let lines : j.lines ≡ clean_trailers named (trailers_of w)
    = c.trailers-in-Whole.ensures.cleaned.lines ∙ ap (clean_trailers named) (c.trailers.ensures.lines c.in-Whole.ensures.refused) in
    trailers_took (setting_of s) named s.body.at w c.args.piece.now s.body.section c.in-Whole.taken j c.requires.built.body_limit c.in-Whole.ensures.says lines
    (c.trailers-in-Whole.ensures.fits.0 c.if-not-trailers.false)

pub returns-in-Refused-clause-steps : goal.returns-in-Refused-clause-steps
returns-in-Refused-clause-steps c =
    let s = c.args.self.now in
    body_wrong (setting_of s) s.judge.hops.names s.body.at c.args.piece.now s.body.section c.in-Refused.cause c.requires.built.body_limit c.in-Refused.ensures.says
