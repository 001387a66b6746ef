use Rattle.std.proofs.Common.{arith, ◌∙◌, refl}
use Rattle.bh_control.proofs.Controls.{once_for, leads_here, leads_with, need_pushed, whole_pushed, limit_pushed, dead_pushed}
use Rattle.bh_control.proofs.control.ControlReader.push.Goals as goal

pub loop-offset-init : goal.loop-offset-init
loop-offset-init c = record {
  limits = refl;
  stage = c.requires;
  leads = leads_here c.args.self.now.limits c.args.self.now;
  next = c.first_part-part.ensures.next;
}

pub loop-offset-preserved : goal.loop-offset-preserved
loop-offset-preserved c =
    let l = c.loop-offset in
    let t = c.in-More.ensures in
    record {
      limits = t.limits ∙ l.invariant.limits;
      stage = t.says.0;
      leads = leads_with c.args.self.now l.self c.take.new.self c.args.piece.now l.offset l.part (omega arith) l.invariant t;
      next = c.next_part-part.ensures;
    }

pub returns-in-Whole : goal.returns-in-Whole
returns-in-Whole c =
    let l = c.loop-offset in
    let f = whole_pushed c.args.self.now l.self c.take.new.self c.args.piece.now l.offset l.part (once_for c.args.self.now c.first_part-part.ensures.left) (omega arith) l.invariant c.in-Whole.ensures in
    record { need = f.need; whole = f.whole; dead = f.dead; limit = f.limit; shows = f.shows; behind = f.behind }

pub returns-in-Limit : goal.returns-in-Limit
returns-in-Limit c =
    let l = c.loop-offset in
    let f = limit_pushed c.args.self.now l.self c.take.new.self c.args.piece.now l.offset l.part (once_for c.args.self.now c.first_part-part.ensures.left) (omega arith) l.invariant c.in-Limit.ensures in
    record { need = f.need; whole = f.whole; dead = f.dead; limit = f.limit; shows = f.shows; behind = f.behind }

pub returns-in-Dead : goal.returns-in-Dead
returns-in-Dead c =
    let l = c.loop-offset in
    let f = dead_pushed c.args.self.now l.self c.take.new.self c.args.piece.now l.offset l.part (once_for c.args.self.now c.first_part-part.ensures.left) (omega arith) l.invariant c.in-Dead.ensures in
    record { need = f.need; whole = f.whole; dead = f.dead; limit = f.limit; shows = f.shows; behind = f.behind }

pub returns : goal.returns
returns c =
    let l = c.loop-offset in
    let f = need_pushed c.args.self.now l.self c.args.piece.now l.offset l.part (once_for c.args.self.now c.first_part-part.ensures.left) (omega arith) (omega arith) l.invariant in
    record { need = f.need; whole = f.whole; dead = f.dead; limit = f.limit; shows = f.shows; behind = f.behind }
