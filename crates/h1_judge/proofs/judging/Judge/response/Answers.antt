use Rattle.std.proofs.Common.{Some, None, sym, ◌∙◌, refl}
use Rattle.bh_spec.specs.Items.{of_request, of_response}
use Rattle.bh_model.specs.Values.{control_lent}
use Rattle.h1_judge.proofs.Heads.{head_free, head_judged}
use Rattle.h1_judge.proofs.Lengths.{length_of}
use Rattle.h1_judge.proofs.Rooms.{room_of}
use Rattle.h1_rules.proofs.Named.{headers_named}
use Rattle.h1_judge.proofs.judging.Judge.response.Goals as goal

pub clean_header-requires-clause-room : goal.clean_header-requires-clause-room
clean_header-requires-clause-room c =
    let r = c.requires in
    room_of r.0 c.args.self.now r.1 c.args.fields.now.lines r.2.2 (headers_named c.args.fields.now.lines r.2.1)

pub clean_header-requires-clause-named : goal.clean_header-requires-clause-named
clean_header-requires-clause-named c = headers_named c.args.fields.now.lines c.requires.2.1

pub returns-in-Some : goal.returns-in-Some
returns-in-Some c =
    let j = c.args.self.now in
    head_judged j c.clean_header.new.self (of_response c.args.status) c.args.fields.now.lines c.in-Some.form c.clean_header.ensures (sym c.in-Some.is ∙ c.form_of_response.ensures c.args.status) c.requires.1.counting

pub announce-requires : goal.announce-requires
announce-requires c = length_of (of_response c.args.status) c.args.fields.now.lines (sym (c.form_of_response.ensures c.args.status) ∙ c.in_default.is)

pub returns : goal.returns
returns c =
    let j = c.args.self.now in
    let e = c.announce.ensures in
    head_free j c.clean_header.new.self c.announce.new.self (of_response c.args.status) c.args.fields.now.lines (Some c.args.status) c.clean_header.ensures
    (sym c.in_default.is ∙ c.form_of_response.ensures c.args.status) e.framing refl e.counting e.counted e.to_head e.hops e.cleaned
