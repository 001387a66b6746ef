use Rattle.std.proofs.Common.{arith, ◌∙◌, refl}
use Rattle.bh_fields.proofs.Exactly.{once_for, leads_here, leads_over, need_pushed, whole_pushed, limit_pushed, dead_pushed}
use Rattle.bh_fields.proofs.reader.SectionReader.push.Goals as goal

pub returns-in-Whole : goal.returns-in-Whole
returns-in-Whole c =
    let l = c.loop-offset in
    let f = whole_pushed c.args.self.now l.self c.take.new.self c.args.piece.now l.offset l.part (once_for c.args.self.now c.first_part-part.ensures.left) (omega arith) l.invariant.1 c.in-Whole.ensures in
    record { need = f.need; whole = f.whole; dead = f.dead; limit = f.limit; shows = f.shows; behind = f.behind }

pub returns-in-Limit : goal.returns-in-Limit
returns-in-Limit c =
    let l = c.loop-offset in
    let f = limit_pushed c.args.self.now l.self c.take.new.self c.args.piece.now l.offset l.part (once_for c.args.self.now c.first_part-part.ensures.left) (omega arith) l.invariant.1 c.in-Limit.ensures in
    record { need = f.need; whole = f.whole; dead = f.dead; limit = f.limit; shows = f.shows; behind = f.behind }

pub returns-in-Dead : goal.returns-in-Dead
returns-in-Dead c =
    let l = c.loop-offset in
    let f = dead_pushed c.args.self.now l.self c.take.new.self c.args.piece.now l.offset l.part (once_for c.args.self.now c.first_part-part.ensures.left) (omega arith) l.invariant.1 c.in-Dead.ensures in
    record { need = f.need; whole = f.whole; dead = f.dead; limit = f.limit; shows = f.shows; behind = f.behind }

pub returns : goal.returns
returns c =
    let l = c.loop-offset in
    let f = need_pushed c.args.self.now l.self c.args.piece.now l.offset l.part (once_for c.args.self.now c.first_part-part.ensures.left) l.invariant.0 (omega (arith, c.loop-offset-test.false)) l.invariant.1 in
    record { need = f.need; whole = f.whole; dead = f.dead; limit = f.limit; shows = f.shows; behind = f.behind }

pub loop-offset-init : goal.loop-offset-init
loop-offset-init c = (
  omega arith,
  record {
    limits = refl;
    form = refl;
    place = refl;
    stage = c.requires;
    leads = leads_here c.args.self.now;
    next = c.first_part-part.ensures.next;
  },
)

pub loop-offset-preserved : goal.loop-offset-preserved
loop-offset-preserved c =
    let i = c.loop-offset.invariant.1 in
    let t = c.in-More.ensures in
    let r = c.take_inner-offset.ensures.on in (
      c.take_inner-offset.ensures.within,
      record {
        limits = r.same.limits ∙ t.0.limits ∙ i.limits;
        form = r.same.form ∙ t.0.form ∙ i.form;
        place = r.same.place ∙ t.0.place ∙ i.place;
        stage = r.stage;
        leads = leads_over c.args.self.now c.loop-offset.self c.take.new.self c.take_inner-offset.new.self c.args.piece.now c.loop-offset.offset c.take_inner-offset.result (omega arith) i.leads t.2
            c.take_inner-offset.ensures.more r;
        next = c.next_part-part.ensures;
      },
    )
