-- A source as a port.
use Rattle.std.specs.Prelude.{◌≡◌, ◌≤◌, ℕ, None}
use Rattle.bh_base.specs.Steps.{Step, BadWrite, Rose, WriteFacts}

-- A write failed, and was counted.
pub record FailedWrite (before : ℕ) (x : Step) (now : ℕ) : Type 0 where
  pub size : ℕ
  pub call : x ≡ BadWrite size
  pub stays : before ≤ now
  pub rose : Rose before now

pub failed_write_law : {S : Type 0} (faults : S → ℕ) (s t : S) (x : Step) → FailedWrite (faults s) x (faults t)
    → WriteFacts (λ p. None) faults s x t
failed_write_law faults s t x h = rw (h.call) record { only = tt; fits = tt; some = tt; counts = (h.stays, h.rose); goes = tt }

-- of a source alone: no call is a write
abbrev pub NoWrite : {S : Type 0} → S → Step → S → Type 0
NoWrite s x t = ⊥
