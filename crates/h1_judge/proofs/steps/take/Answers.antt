use Rattle.std.proofs.Common.{List, [], ◌∷◌, ℕ, ◌∙◌, map, subst, arith}
use Rattle.bh_spec.specs.Items.{content_byte}
use Rattle.h1_judge.specs.Judges.{view_of, IsFront}
use Rattle.h1_judge.proofs.Turns.{Turn, turn_start, sound_there, sound_from, whole_turn, turn_need, turn_took, turn_refused}
use Rattle.h1_judge.proofs.steps.take.Goals as goal

pub loop-taken-init : goal.loop-taken-init
loop-taken-init c = turn_start c.args.reading.now c.args.judge.now c.args.piece.now c.requires.ready c.requires.sound

pub front-bytes-requires : goal.front-bytes-requires
front-bytes-requires c = record { counting = c.loop-taken.invariant.sound.counting }

pub step-requires-clause-ready : goal.step-requires-clause-ready
step-requires-clause-ready c = c.loop-taken.invariant.ready

pub step-requires-clause-sound : goal.step-requires-clause-sound
step-requires-clause-sound c = sound_there c.args.reading.now c.args.judge.now c.args.piece.now c.loop-taken.taken c.loop-taken.reading c.loop-taken.judge c.loop-taken.invariant

pub loop-taken-preserved : goal.loop-taken-preserved
loop-taken-preserved c =
    let e = c.in-Need.ensures in
    turn_need c.args.reading.now c.args.judge.now c.args.piece.now c.loop-taken.taken c.loop-taken.reading c.loop-taken.judge c.loop-taken.invariant
    c.front-bytes.result.now (subst (λ (l : List ℕ). IsFront l c.front-bytes.result.now) c.behind.ensures c.front-bytes.ensures.front)
    c.step.new.reading c.step.new.judge e.pushed e.limits e.sound

pub returns-in-Content-clause-pushed : goal.returns-in-Content-clause-pushed
returns-in-Content-clause-pushed c =
    let e = c.in-Content.ensures in (
      turn_took c.args.reading.now c.args.judge.now c.args.piece.now c.loop-taken.taken c.loop-taken.reading c.loop-taken.judge c.loop-taken.invariant
          c.front-bytes.result.now (subst (λ (l : List ℕ). IsFront l c.front-bytes.result.now) c.behind.ensures c.front-bytes.ensures.front)
          (view_of c.step.new.reading c.step.new.judge) c.in-Content.more (map content_byte c.in-Content.content.now) e.pushed.0,
      e.pushed.1,
      omega (arith, e.pushed.2),
    )

pub returns-in-Content-clause-limits : goal.returns-in-Content-clause-limits
returns-in-Content-clause-limits c =
    c.in-Content.ensures.limits ∙ c.loop-taken.invariant.limits

pub returns-in-Content-clause-sound : goal.returns-in-Content-clause-sound
returns-in-Content-clause-sound c =
    sound_from c.args.reading.now c.args.judge.now c.args.piece.now c.loop-taken.taken c.loop-taken.reading c.loop-taken.judge c.loop-taken.invariant c.step.new.judge c.in-Content.ensures.sound

pub returns-in-Whole-clause-pushed : goal.returns-in-Whole-clause-pushed
returns-in-Whole-clause-pushed c =
    let p = c.in-Whole.ensures.pushed in (
      p.0,
      turn_took c.args.reading.now c.args.judge.now c.args.piece.now c.loop-taken.taken c.loop-taken.reading c.loop-taken.judge c.loop-taken.invariant
          c.front-bytes.result.now (subst (λ (l : List ℕ). IsFront l c.front-bytes.result.now) c.behind.ensures c.front-bytes.ensures.front)
          (view_of c.step.new.reading c.step.new.judge) c.in-Whole.more (p.0 ∷ []) p.1,
      p.2,
      p.3,
    )

pub returns-in-Whole-clause-limits : goal.returns-in-Whole-clause-limits
returns-in-Whole-clause-limits c =
    c.in-Whole.ensures.limits ∙ c.loop-taken.invariant.limits

pub returns-in-Whole-clause-sound : goal.returns-in-Whole-clause-sound
returns-in-Whole-clause-sound c =
    sound_from c.args.reading.now c.args.judge.now c.args.piece.now c.loop-taken.taken c.loop-taken.reading c.loop-taken.judge c.loop-taken.invariant c.step.new.judge c.in-Whole.ensures.sound

pub returns-in-Refused-clause-pushed : goal.returns-in-Refused-clause-pushed
returns-in-Refused-clause-pushed c =
    turn_refused c.args.reading.now c.args.judge.now c.args.piece.now c.loop-taken.taken c.loop-taken.reading c.loop-taken.judge c.loop-taken.invariant
    c.front-bytes.result.now (subst (λ (l : List ℕ). IsFront l c.front-bytes.result.now) c.behind.ensures c.front-bytes.ensures.front)
    c.in-Refused.why c.in-Refused.ensures.pushed

pub returns-in-Refused-clause-limits : goal.returns-in-Refused-clause-limits
returns-in-Refused-clause-limits c =
    c.in-Refused.ensures.limits ∙ c.loop-taken.invariant.limits

pub returns-in-Refused-clause-sound : goal.returns-in-Refused-clause-sound
returns-in-Refused-clause-sound c =
    sound_from c.args.reading.now c.args.judge.now c.args.piece.now c.loop-taken.taken c.loop-taken.reading c.loop-taken.judge c.loop-taken.invariant c.step.new.judge c.in-Refused.ensures.sound

pub returns-clause-pushed : goal.returns-clause-pushed
returns-clause-pushed c =
    whole_turn c.args.reading.now c.args.judge.now c.args.piece.now c.loop-taken.taken c.loop-taken.reading c.loop-taken.judge c.loop-taken.invariant c.loop-taken-test.false

pub returns-clause-limits : goal.returns-clause-limits
returns-clause-limits c = c.loop-taken.invariant.limits

pub returns-clause-sound : goal.returns-clause-sound
returns-clause-sound c = c.loop-taken.invariant.sound
