use Rattle.bh_decode.proofs.SectionTexts.{section_begun, section_behind, section_cut}
use Rattle.bh_decode.proofs.section.read_section.Goals as goal

pub returns-in-Whole-clause-whole : goal.returns-in-Whole-clause-whole
returns-in-Whole-clause-whole c =
    let p = c.in-Whole.ensures in
    let b = p.behind in
    record {
      within = p.shows.within;
      whole = ((section_behind c.args.form c.args.place c.args.reader.now c.begin.new.self c.push.new.self _ c.begin.ensures b.limits b.leads.0).thing c.push.new.self.lines).1 b.leads.1;
    }

pub returns-in-Need-clause-stops : goal.returns-in-Need-clause-stops
returns-in-Need-clause-stops c =
    let b = c.in-Need.ensures.behind in
    section_cut c.args.form c.args.place c.args.reader.now c.begin.new.self c.push.new.self c.args.bytes.now c.next_part.result c.begin.ensures b.limits b.leads c.next_part.ensures

pub returns-in-Dead-clause-stops : goal.returns-in-Dead-clause-stops
returns-in-Dead-clause-stops c =
    ((section_begun c.args.form c.args.place c.args.reader.now c.begin.new.self c.args.bytes.now c.begin.ensures).dead c.in-Dead.offset c.in-Dead.part).1 c.in-Dead.ensures.shows

pub returns-in-Limit-clause-stops : goal.returns-in-Limit-clause-stops
returns-in-Limit-clause-stops c =
    ((section_begun c.args.form c.args.place c.args.reader.now c.begin.new.self c.args.bytes.now c.begin.ensures).limit c.in-Limit.offset c.in-Limit.part).1 c.in-Limit.ensures.shows
