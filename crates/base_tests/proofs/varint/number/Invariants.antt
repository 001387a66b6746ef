use Rattle.std.proofs.Common.{◌≡◌, take}
use Rattle.bh_varint.specs.Step.{IsUnfinished}
use Rattle.base_tests.proofs.varint.number.Given as goal

abbrev pub invariant-loop-i : goal.invariant-loop-i
invariant-loop-i l = record { so_far : l.partial ≡ take l.i l.bytes; unfinished : IsUnfinished l.partial }
