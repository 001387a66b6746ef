-- Numbers with a greatest one.
use Rattle.std.specs.Prelude.{ℕ, ◌≤◌}
use Rattle.bh_spec.specs.declared.Part.{Part}
use Rattle.bh_spec.specs.Texts.{Text}
use Rattle.bh_varint.specs.Numbers.{NumberThat}

abbrev pub NumberOf : Part → ℕ → ℕ → Text → Type 0
NumberOf part most = NumberThat part (λ n. n ≤ most)
