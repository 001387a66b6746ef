-- Bytes that are gathered in memory: what a write does.
use Rattle.std.specs.Prelude.{◌≡◌, ◌<◌, ◌≤◌, ◌-◌, ◌^◌, ℕ, List, [], ◌++◌, length, Option, Some}
use Rattle.std.proofs.Common.{refl, sym, ◌∙◌, arith, append-nil}
use Rattle.bh_base.specs.Steps.{Step, Read, Write, BadRead, BadWrite, WriteFacts}

-- the bytes that it holds, and how many more it can hold
pub record GatheredView : Type 0 where
  pub bytes : List ℕ
  pub room : ℕ

abbrev pub with_bytes : GatheredView → List ℕ → GatheredView
with_bytes v bytes = record { bytes = v.bytes ++ bytes; room = v.room - length bytes }

-- what a write does: it takes bytes for which there is room, or fails where there is none
abbrev pub Gathers : GatheredView → Step → GatheredView → Type 0
Gathers v (Read size bytes) w = ⊥
Gathers v (Write size bytes) w = (w ≡ with_bytes v bytes) × (length bytes ≤ v.room) × (length bytes ≤ size) × (0 < size → 0 < length bytes)
Gathers v (BadRead size) w = ⊥
Gathers v (BadWrite size) w = (w ≡ v) × (v.room ≡ 0)

abbrev pub gathered_bytes : GatheredView → Option (List ℕ)
gathered_bytes v = Some v.bytes

abbrev pub no_count : GatheredView → ℕ
no_count v = 2 ^ 64 - 1

pub gather_law : (v w : GatheredView) (x : Step) → Gathers v x w → WriteFacts gathered_bytes no_count v x w
gather_law v w (Read size bytes) h = absurd h
gather_law v w (Write size bytes) h = record {
  only = tt;
  fits = h.2;
  some = h.3;
  counts = refl;
  goes = bytes_are w (with_bytes v bytes) h.0;
}
  where
    bytes_are : (x y : GatheredView) → x ≡ y → x.bytes ≡ y.bytes
    bytes_are x y e = λ i. (e i).bytes
gather_law v w (BadRead size) h = absurd h
gather_law v w (BadWrite size) h = record { only = tt; fits = tt; some = tt; counts = (omega arith, omega arith); goes = held w v h.0 }
  where
    held : (x y : GatheredView) → x ≡ y → x.bytes ≡ y.bytes ++ []
    held x y e = (λ i. (e i).bytes) ∙ sym (append-nil y.bytes)
