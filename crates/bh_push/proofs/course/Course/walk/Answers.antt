use Rattle.std.proofs.Common.{◌∷◌, [], map, arith}
use Rattle.bh_spec.specs.Items.{interim_response, head, content_byte, trailer_section}
use Rattle.bh_push.specs.Courses.{head_of, place_of}
use Rattle.bh_push.proofs.Walking.{walk_here, walk_on, ends_on, full_on, stays_on, stood_on, walk_dead, walk_limit, walk_all}
use Rattle.bh_push.proofs.course.Course.walk.Goals as goal

pub loop-at-init : goal.loop-at-init
loop-at-init c = walk_here c.args.self.now c.args.piece.now c.requires.open c.requires.alive

pub loop-at-preserved : goal.loop-at-preserved
loop-at-preserved c =
    walk_on c.args.self.now c.loop-at.self c.step.new.self c.args.piece.now c.behind.result.now c.loop-at.at c.in-On.taken [] c.behind.ensures c.loop-at.invariant c.in-On.ensures

pub returns-in-Interim : goal.returns-in-Interim
returns-in-Interim c = (
  omega (arith, c.in-Interim.ensures.some),
  walk_on c.args.self.now c.loop-at.self c.step.new.self c.args.piece.now c.behind.result.now c.loop-at.at c.in-Interim.taken (interim_response c.in-Interim.status c.step.new.self.section.lines ∷ [])
      c.behind.ensures c.loop-at.invariant c.in-Interim.ensures,
)

pub returns-in-Head : goal.returns-in-Head
returns-in-Head c =
    let w = c.step.new.self in (
      omega (arith, c.in-Head.ensures.some),
      walk_on c.args.self.now c.loop-at.self c.step.new.self c.args.piece.now c.behind.result.now c.loop-at.at c.in-Head.taken (head (head_of w.status w.control.control) w.section.lines ∷ [])
          c.behind.ensures c.loop-at.invariant c.in-Head.ensures,
    )

pub returns-in-Content : goal.returns-in-Content
returns-in-Content c =
    let s = c.in-Content.ensures in (
      walk_on c.args.self.now c.loop-at.self c.step.new.self c.args.piece.now c.behind.result.now c.loop-at.at c.in-Content.taken (map content_byte c.in-Content.bytes.now)
          c.behind.ensures c.loop-at.invariant s.0,
      ends_on c.args.piece.now c.behind.result.now c.in-Content.bytes.now c.loop-at.at c.in-Content.taken c.behind.ensures s.1,
      full_on c.args.piece.now c.behind.result.now c.loop-at.at c.in-Content.taken (place_of c.step.new.self) c.behind.ensures c.loop-at.invariant.inside s.2,
    )

pub returns-in-Trailers : goal.returns-in-Trailers
returns-in-Trailers c = (
  omega (arith, c.in-Trailers.ensures.some),
  walk_on c.args.self.now c.loop-at.self c.step.new.self c.args.piece.now c.behind.result.now c.loop-at.at c.in-Trailers.taken (trailer_section c.step.new.self.section.lines ∷ [])
      c.behind.ensures c.loop-at.invariant c.in-Trailers.ensures,
)

pub returns-in-Dead : goal.returns-in-Dead
returns-in-Dead c = (
  walk_dead c.args.self.now c.loop-at.self c.args.piece.now c.behind.result.now c.loop-at.at c.in-Dead.offset c.in-Dead.part c.behind.ensures c.loop-at.invariant c.in-Dead.ensures.0,
  stays_on c.args.self.now c.loop-at.self c.step.new.self c.args.piece.now c.loop-at.at c.loop-at.invariant c.in-Dead.ensures.1,
  stood_on c.args.self.now c.loop-at.self c.step.new.self c.args.piece.now c.behind.result.now c.loop-at.at c.in-Dead.offset c.behind.ensures c.loop-at.invariant c.in-Dead.ensures.2,
)

pub returns-in-Limit : goal.returns-in-Limit
returns-in-Limit c = (
  walk_limit c.args.self.now c.loop-at.self c.args.piece.now c.behind.result.now c.loop-at.at c.in-Limit.offset c.in-Limit.part c.behind.ensures c.loop-at.invariant c.in-Limit.ensures.0,
  stays_on c.args.self.now c.loop-at.self c.step.new.self c.args.piece.now c.loop-at.at c.loop-at.invariant c.in-Limit.ensures.1,
  stood_on c.args.self.now c.loop-at.self c.step.new.self c.args.piece.now c.behind.result.now c.loop-at.at c.in-Limit.offset c.behind.ensures c.loop-at.invariant c.in-Limit.ensures.2,
)

pub returns : goal.returns
returns c = walk_all c.args.self.now c.loop-at.self c.args.piece.now c.loop-at.at (omega (arith, c.loop-at-test.false)) c.loop-at.invariant
