use Rattle.std.proofs.Common.{take}
use Rattle.bh_base.specs.Batches.{Puts}
use Rattle.bh_text.specs.Sections.{section_text}
use Rattle.bh_text.proofs.lines.put_section.Given as goal

abbrev pub invariant-loop-i : goal.invariant-loop-i
invariant-loop-i g l = Puts g.S.Sink.write_step l.initial.sink l.initial.out (section_text l.word (take l.i l.fields.lines)) l.sink l.out
