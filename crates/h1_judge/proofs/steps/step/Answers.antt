use Rattle.std.proofs.Common.{take}
use Rattle.h1_judge.proofs.Handing.{need_on, content_free, content_judged, event_free, event_judged, binary_refused, shown_here}
use Rattle.h1_judge.proofs.steps.step.Goals as goal

pub judge_event-requires : goal.judge_event-requires
judge_event-requires c =
    let e = c.in-Whole.ensures in
    let p = e.pushed in
    shown_here c.args.reading.now c.read.new.self c.args.judge.now c.requires.ready c.requires.sound (take c.in-Whole.taken c.args.bytes.now) c.in-Whole.event p.0 p.1.moved p.2

pub returns-in-Need-clause-pushed : goal.returns-in-Need-clause-pushed
returns-in-Need-clause-pushed c =
    let e = c.in-Need.ensures in
    need_on c.args.reading.now c.read.new.self c.args.judge.now c.requires.ready c.args.bytes.now e.pushed.0 (e.prompt e.pushed.0.refusal)

pub returns-in-Some-clause-pushed : goal.returns-in-Some-clause-pushed
returns-in-Some-clause-pushed c =
    let e = c.in-Content.ensures in
    content_judged c.args.reading.now c.read.new.self c.args.judge.now c.content.new.self c.requires.ready c.args.bytes.now c.in-Content.taken c.in-Content.content.now
    c.in-Some.form c.requires.short e.pushed.2 e.pushed.0 e.right (e.prompt e.pushed.0.moved.refusal) c.in-Some.ensures.counts

pub returns-in-None-clause-pushed : goal.returns-in-None-clause-pushed
returns-in-None-clause-pushed c =
    let e = c.in-Content.ensures in (
      content_free c.args.reading.now c.read.new.self c.args.judge.now c.content.new.self c.requires.ready c.args.bytes.now c.in-Content.taken c.in-Content.content.now
          e.pushed.1 e.pushed.0 e.right (e.prompt e.pushed.0.moved.refusal) c.in-None.ensures.counts c.in-None.ensures.leaves.to_head,
      e.pushed.1,
      e.pushed.2,
    )

pub returns-in-Some-judge_event-clause-pushed : goal.returns-in-Some-judge_event-clause-pushed
returns-in-Some-judge_event-clause-pushed c =
    let e = c.in-Whole.ensures in
    let p = e.pushed in
    event_judged c.args.reading.now c.read.new.self c.args.judge.now c.judge_event.new.judge c.requires.ready c.args.bytes.now c.in-Whole.taken c.in-Whole.event
    p.0 c.in-Some-judge_event.form p.1 p.2 e.right (e.prompt p.1.moved.refusal) (c.in-Some-judge_event.ensures p.0 p.2)

pub returns-in-None-judge_event-clause-pushed : goal.returns-in-None-judge_event-clause-pushed
returns-in-None-judge_event-clause-pushed c =
    let e = c.in-Whole.ensures in
    let p = e.pushed in
    event_free c.args.reading.now c.read.new.self c.args.judge.now c.judge_event.new.judge c.requires.ready c.args.bytes.now c.in-Whole.taken c.in-Whole.event
    p.0 p.1 p.2 p.3 e.right (e.prompt p.1.moved.refusal) (c.in-None-judge_event.ensures p.0 p.2)

pub returns-in-Refused-clause-pushed : goal.returns-in-Refused-clause-pushed
returns-in-Refused-clause-pushed c =
    binary_refused c.args.reading.now c.read.new.self c.args.judge.now c.args.judge.now c.requires.ready c.args.bytes.now c.in-Refused.refusal c.in-Refused.ensures.pushed
