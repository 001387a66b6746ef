use Rattle.std.proofs.Common.{◌∙◌, false, refl, arith}
use Rattle.h1_spec.specs.Cleaning.{values_of, cookie, crumbs}
use Rattle.h1_rules.specs.Own.{dropped_names, own_lines}
use Rattle.h1_head.proofs.Rooms.{cleared}
use Rattle.h1_rules.proofs.Adding.{none_added, lines_added}
use Rattle.h1_rules.proofs.Cookies.{own_clean, own_room}
use Rattle.h1_rules.proofs.cleaning.clean_into.Goals as goal

pub add_own-requires-clause-room : goal.add_own-requires-clause-room
add_own-requires-clause-room c =
    let names = dropped_names c.args.hops.now.names c.args.drop_host in
    let lines = c.args.fields.now.lines in
    let joined = crumbs (values_of cookie lines) in
    let room = own_room names joined lines refl in
    none_added c.clear.new.self (own_lines names joined false lines) c.clear.ensures.lines c.clear.ensures.making
    (omega (arith, room.0, c.clear.ensures.spare, c.requires.room)) (omega (arith, room.1, c.clear.ensures.free, c.requires.count))

pub returns : goal.returns
returns c =
    let names = dropped_names c.args.hops.now.names c.args.drop_host in
    let lines = c.args.fields.now.lines in
    let joined = crumbs (values_of cookie lines) in
    let room = cleared c.args.to.now c.clear.new.self c.clear.ensures.lines c.clear.ensures.making c.clear.ensures.spare c.clear.ensures.free in
    record {
      lines = lines_added c.clear.new.self c.add_own.new.cleaned (own_lines names joined false lines) c.add_own.ensures ∙ own_clean names joined lines refl;
      making = c.add_own.ensures.ended;
      room = c.add_own.ensures.room ∙ room.room;
      count = c.add_own.ensures.count ∙ room.count;
    }
