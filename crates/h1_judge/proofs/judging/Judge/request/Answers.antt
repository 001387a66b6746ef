use Rattle.std.proofs.Common.{Bool, None, sym, subst, ◌∙◌, refl}
use Rattle.h1_spec.specs.Cleaning.{hops, clean}
use Rattle.h1_judge.specs.Judges.{IsCleaned}
use Rattle.bh_spec.specs.Items.{of_request, of_response}
use Rattle.bh_model.specs.Values.{control_lent}
use Rattle.h1_judge.proofs.Heads.{head_free, head_judged}
use Rattle.h1_judge.proofs.Lengths.{length_of}
use Rattle.h1_judge.proofs.Rooms.{room_of}
use Rattle.h1_rules.proofs.Named.{headers_named}
use Rattle.h1_judge.proofs.judging.Judge.request.Goals as goal

pub clean_header-requires-clause-room : goal.clean_header-requires-clause-room
clean_header-requires-clause-room c =
    let r = c.requires in
    room_of r.0 c.args.self.now r.1 c.args.fields.now.lines r.2.2 (headers_named c.args.fields.now.lines r.2.1)

pub clean_header-requires-clause-named : goal.clean_header-requires-clause-named
clean_header-requires-clause-named c = headers_named c.args.fields.now.lines c.requires.2.1

pub returns : goal.returns
returns c =
    let j = c.args.self.now in
    let e = c.announce.ensures in
    head_free j c.clean_header.new.self c.announce.new.self (of_request (control_lent c.args.control)) c.args.fields.now.lines None
    (subst (λ (b : Bool). IsCleaned j (hops c.args.fields.now.lines) (clean (hops c.args.fields.now.lines) b c.args.fields.now.lines) c.clean_header.new.self) c.says_authority.ensures c.clean_header.ensures)
    (sym c.in_default.is ∙ c.form_of_request.ensures) e.framing refl e.counting e.counted e.to_head e.hops e.cleaned
