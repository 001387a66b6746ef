use Rattle.std.proofs.Common.{length, ◌-◌, ◌≤◌, All, IsTrue, take}
use Rattle.bh_spec.specs.Bytes.{is_token}
use Rattle.bh_fields.proofs.steps.token_count.Given as goal

abbrev pub invariant-loop-count : goal.invariant-loop-count
invariant-loop-count l = (l.count ≤ length l.bytes) × All (λ byte. IsTrue (is_token byte)) (take l.count l.bytes)

abbrev pub decreases-loop-count : goal.decreases-loop-count
decreases-loop-count l = length l.bytes - l.count
