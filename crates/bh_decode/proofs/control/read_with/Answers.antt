use Rattle.std.proofs.Common.{[], sym, subst}
use Rattle.bh_spec.specs.Bounds.{Bounds}
use Rattle.bh_control.specs.Control.{Rest}
use Rattle.bh_decode.proofs.ControlTexts.{control_begun, control_behind, control_cut}
use Rattle.bh_decode.proofs.control.read_with.Goals as goal

pub returns-in-Whole-clause-whole : goal.returns-in-Whole-clause-whole
returns-in-Whole-clause-whole c =
    let p = c.in-Whole.ensures in
    let b = p.behind in
    let w = c.push.new.self in
    record {
      within = p.shows.within;
      whole = ((control_behind c.args.reader.now c.begin.new.self w _ c.begin.ensures b.limits b.leads.0).thing w.control).1 (subst (λ (L : Bounds). Rest L w w.control []) (sym b.limits) b.leads.1);
    }

pub returns-in-Need-clause-stops : goal.returns-in-Need-clause-stops
returns-in-Need-clause-stops c =
    let b = c.in-Need.ensures.behind in
    control_cut c.args.reader.now c.begin.new.self c.push.new.self c.args.bytes.now c.next_part.result c.begin.ensures b.limits b.leads c.next_part.ensures

pub returns-in-Dead-clause-stops : goal.returns-in-Dead-clause-stops
returns-in-Dead-clause-stops c =
    ((control_begun c.args.reader.now c.begin.new.self c.args.bytes.now c.begin.ensures).dead c.in-Dead.offset c.in-Dead.part).1 c.in-Dead.ensures.shows

pub returns-in-Limit-clause-stops : goal.returns-in-Limit-clause-stops
returns-in-Limit-clause-stops c =
    ((control_begun c.args.reader.now c.begin.new.self c.args.bytes.now c.begin.ensures).limit c.in-Limit.offset c.in-Limit.part).1 c.in-Limit.ensures.shows
