use Rattle.std.proofs.Common.{arith, ◌≡◌, Some, ℕ, ap, ◌∙◌}
use Rattle.bh_spec.specs.Bounds.{Bounds}
use Rattle.bh_fields.specs.Points.{part_of, most_of}
use Rattle.bh_fields.proofs.Changes.{part_is, most_is}
use Rattle.bh_fields.proofs.reader.SectionReader.new.Goals as goal

pub invariant_of-result : goal.invariant_of-result
invariant_of-result c =
    let L : Bounds = c.args.limits.now in
    let part = c.part-part.ensures in
    let most = c.section-most.ensures in
    let p : c.part-part.result ≡ part_of L = part_is L c.part-part.result part.value in
    let m : c.section-most.result ≡ most_of L = most_is L c.section-most.result most.value in
    let f = c.in_ok-fields.ensures in
    record {
      sized = record {
        part_is = part.value ∙ ap (λ (n : ℕ). Some n) p;
        part_low = omega (arith, part.low);
        most_is = most.value ∙ ap (λ (n : ℕ). Some n) m;
        most_high = omega (arith, most.high);
        bytes = rw f (omega (arith, m));
        count = rw f (omega (arith, m));
      };
      known = λ e. absurd cc;
      idle = λ e. absurd cc;
      left = λ e. absurd cc;
    }
