use Rattle.std.proofs.Common.{◌≡◌, ◌≤◌, reverse, length}
use Rattle.h1_spec.specs.Cleaning.{behind_blanks}
use Rattle.h1_rules.proofs.hops.before_blanks.Given as goal

abbrev pub invariant-loop-byte : goal.invariant-loop-byte
invariant-loop-byte l = record { trimmed : reverse (behind_blanks (reverse l.bytes)) ≡ reverse (behind_blanks (reverse l.rest)); short : length l.rest ≤ length l.bytes }

abbrev pub decreases-loop-byte : goal.decreases-loop-byte
decreases-loop-byte l = length l.rest
