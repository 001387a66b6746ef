use Rattle.std.proofs.Common.{◌≡◌, ◌≤◌, length}
use Rattle.h1_spec.specs.Cleaning.{behind_blanks}
use Rattle.h1_rules.proofs.hops.behind_blanks.Given as goal

abbrev pub invariant-loop-byte : goal.invariant-loop-byte
invariant-loop-byte l = record { trimmed : behind_blanks l.bytes ≡ behind_blanks l.rest; short : length l.rest ≤ length l.bytes }

abbrev pub decreases-loop-byte : goal.decreases-loop-byte
decreases-loop-byte l = length l.rest
