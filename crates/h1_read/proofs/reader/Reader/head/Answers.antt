use Rattle.std.proofs.Common.{◌≡◌, ◌∙◌, ℕ, List, sym, subst}
use Rattle.h1_read.specs.HeadJudges.{view_of}
use Rattle.h1_read.specs.Places.{Place, in_head}
use Rattle.h1_read.specs.Readers.{setting_of, place_of, NeedsAt}
use Rattle.h1_read.proofs.HeadSteps.{head_needs, head_past, head_wrong}
use Rattle.h1_read.proofs.Standings.{at_head, whole_took}
use Rattle.h1_read.proofs.reader.Reader.head.Goals as goal

pub returns-in-Need-clause-steps : goal.returns-in-Need-clause-steps
returns-in-Need-clause-steps c =
    let s = c.args.self.now in
    subst (λ (p : Place). NeedsAt (setting_of s) (in_head c.args.interims s.heads.seen) c.args.piece.now p)
    (sym (at_head s.phase c.args.interims c.push.new.self.seen s.judge.hops.names s.body.at c.requires.phase))
    (head_needs (setting_of s) c.args.interims s.heads c.push.new.self c.args.piece.now c.requires.stands.few c.requires.built.heads_limit c.in-Need.ensures.step)

pub returns-in-HeadLimit-clause-steps : goal.returns-in-HeadLimit-clause-steps
returns-in-HeadLimit-clause-steps c =
    let s = c.args.self.now in
    head_past (setting_of s) c.args.interims s.heads c.push.new.self c.args.piece.now c.requires.stands.few c.requires.built.heads_limit c.requires.stands.more c.in-HeadLimit.ensures.step

pub returns-in-Ok-clause-steps : goal.returns-in-Ok-clause-steps
returns-in-Ok-clause-steps c =
    let s = c.args.self.now in
    whole_took (setting_of s) c.args.interims s.heads c.push.new.self c.args.piece.now c.in-Whole.taken c.in-Ok.event (place_of c.whole_head.new.self) (view_of c.whole_head.new.self.judge) c.requires.stands.none c.in-Whole.ensures.step c.in-Ok.ensures.says

pub returns-in-Err-clause-steps : goal.returns-in-Err-clause-steps
returns-in-Err-clause-steps c =
    let s = c.args.self.now in
    let says = c.in-Err.ensures.says in
    head_wrong (setting_of s) c.args.interims s.heads c.push.new.self c.args.piece.now c.in-Whole.taken c.in-Err.cause c.requires.stands.few c.requires.built.heads_limit
    c.requires.stands.none c.in-Whole.ensures.step says.0 says.1
