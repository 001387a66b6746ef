use Rattle.std.proofs.Common.{◌∙◌, arith}
use Rattle.h1_spec.specs.Cleaning.{without}
use Rattle.h1_rules.specs.Own.{dropped_trailers}
use Rattle.h1_head.proofs.Rooms.{cleared}
use Rattle.h1_rules.proofs.Adding.{none_added, lines_added}
use Rattle.h1_rules.proofs.Cookies.{without_room, without_count}
use Rattle.h1_rules.proofs.cleaning.clean_trailers_into.Goals as goal

pub add_trailers-requires-clause-room : goal.add_trailers-requires-clause-room
add_trailers-requires-clause-room c =
    let names = dropped_trailers c.args.hops.now.names in
    let lines = c.args.fields.now.lines in
    none_added c.clear.new.self (without names lines) c.clear.ensures.lines c.clear.ensures.making
    (omega (arith, without_room names lines, c.clear.ensures.spare, c.requires.room)) (omega (arith, without_count names lines, c.clear.ensures.free, c.requires.count))

pub returns : goal.returns
returns c =
    let room = cleared c.args.to.now c.clear.new.self c.clear.ensures.lines c.clear.ensures.making c.clear.ensures.spare c.clear.ensures.free in
    record {
      lines = lines_added c.clear.new.self c.add_trailers.new.cleaned (without (dropped_trailers c.args.hops.now.names) c.args.fields.now.lines) c.add_trailers.ensures;
      making = c.add_trailers.ensures.ended;
      room = c.add_trailers.ensures.room ∙ room.room;
      count = c.add_trailers.ensures.count ∙ room.count;
    }
