use Rattle.std.proofs.Common.{take}
use Rattle.bh_base.specs.Batches.{Puts}
use Rattle.h1_spec.specs.Http1Text.{field_lines}
use Rattle.h1_head.proofs.writing.put_fields.Given as goal

abbrev pub invariant-loop-i : goal.invariant-loop-i
invariant-loop-i g l = Puts g.S.Sink.write_step l.initial.sink l.initial.out (field_lines (take l.i l.fields.lines)) l.sink l.out
