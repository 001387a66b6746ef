use denote.Ref.{Bor}
use Rattle.std.proofs.Common.{ℕ, List}
use Rattle.std.specs.Prelude.{option_map}
use Rattle.bh_spec.specs.Messages.{request}
use Rattle.bh_model.specs.Values.{control_lent}
use Rattle.h1_head.specs.Fronts.{request_front}
use Rattle.h1_text.specs.Owed.{head_front}
use Rattle.h1_text.proofs.HeadParts.{front_text, held_bytes, held_room}
use Rattle.h1_text.proofs.heads.hold.Goals as goal

pub returns-clause-bytes : goal.returns-clause-bytes
returns-clause-bytes c =
    let control = control_lent c.args.control in
    let host = option_map (λ (h : Bor (List ℕ)). h.now) c.host_of.result in
    let fields = c.args.fields.now.lines in
    held_bytes c.args.head.now c.clear.new.self c.write_request_front.new.sink (request_front control.method c.args.target.now host fields) (head_front (request control) fields) c.write_request_front.result
    c.clear.ensures c.write_request_front.ensures.wrote (front_text control c.args.target.now host fields c.requires.target c.host_of.ensures) c.requires.room

pub returns-clause-room : goal.returns-clause-room
returns-clause-room c =
    let control = control_lent c.args.control in
    let host = option_map (λ (h : Bor (List ℕ)). h.now) c.host_of.result in
    let fields = c.args.fields.now.lines in
    held_room c.args.head.now c.clear.new.self c.write_request_front.new.sink (request_front control.method c.args.target.now host fields) (head_front (request control) fields) c.write_request_front.result
    c.clear.ensures c.write_request_front.ensures.wrote (front_text control c.args.target.now host fields c.requires.target c.host_of.ensures) c.requires.room
