use Rattle.std.proofs.Common.{◌≡◌, ◌≤◌, ◌*◌, ◌-◌, ◌^◌, ◌%◌, ℕ, arith, ap, ◌∙◌}
use Rattle.bh_spec.specs.declared.Width.{Width}
use Rattle.bh_spec.specs.declared.Width.TheVariants.{One, Two, Four, Eight}
use Rattle.bh_spec.specs.Integers.{byte_count}
use Rattle.bh_spec.proofs.Prefixes.{some_256}
use Rattle.bh_varint.specs.declared.Begun.{Begun}
use Rattle.bh_varint.specs.Begun.{IsStored}
use Rattle.bh_varint.proofs.Growing.{open_below, shifted}
use Rattle.bh_varint.proofs.Begun.range.Goals as goal

-- the number that the shift makes
numbers : (b : Begun) (bytes : ℕ) → IsStored b → bytes ≡ byte_count b.width → 1 * 2 ^ (8 * (bytes - b.count)) % 2 ^ 64 ≡ 256 ^ (byte_count b.width - b.count)
numbers b bytes h e = shifted (bytes - b.count) (omega (arith, h.some, e, most b.width)) ∙ ap (λ (k : ℕ). 256 ^ (k - b.count)) e
  where
    most : (w : Width) → byte_count w ≤ 8
    most One = omega arith
    most Two = omega arith
    most Four = omega arith
    most Eight = omega arith

pub overflow_mul-low : goal.overflow_mul-low
overflow_mul-low c =
    let b = c.args.self.now in
    let n = numbers b c.bytes.result c.requires c.bytes.ensures in
    omega (arith, n, ap (λ (i : ℕ). b.value * i) n, open_below b c.requires)

pub overflow_add-result : goal.overflow_add-result
overflow_add-result c =
    let b = c.args.self.now in
    let n = numbers b c.bytes.result c.requires c.bytes.ensures in
    omega (arith, n, ap (λ (i : ℕ). b.value * i) n, open_below b c.requires)

pub returns-clause-low : goal.returns-clause-low
returns-clause-low c =
    let b = c.args.self.now in
    ap (λ (i : ℕ). b.value * i) (numbers b c.bytes.result c.requires c.bytes.ensures)

pub returns-clause-high : goal.returns-clause-high
returns-clause-high c =
    let b = c.args.self.now in
    let n = numbers b c.bytes.result c.requires c.bytes.ensures in
    omega (arith, n, ap (λ (i : ℕ). b.value * i) n, some_256 (byte_count b.width - b.count))
