use Rattle.std.proofs.Common.{ap, arith, drop}
use Rattle.bh_model.specs.Lines.{lines_room}
use Rattle.h1_rules.proofs.Values.{drop_line}
use Rattle.h1_rules.proofs.lines.room_of.Goals as goal

pub loop-i-preserved : goal.loop-i-preserved
loop-i-preserved c =
    let line = ap lines_room (drop_line c.args.fields.now.lines c.loop-i.i (record { name = c.line.result.0.now; value = c.line.result.1.now }) c.line.ensures.line) in
    omega (arith, line, c.loop-i.invariant, c.in-Some.ensures)
