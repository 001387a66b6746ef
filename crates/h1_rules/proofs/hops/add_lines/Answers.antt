use Rattle.std.proofs.Common.{ℕ, List, ap, ◌∙◌, ◌++◌, codes, drop, length, arith}
use Rattle.h1_spec.specs.Cleaning.{values_of, hops}
use Rattle.h1_rules.specs.Hopping.{hops_of_values, hops_in, names_held}
use Rattle.h1_rules.proofs.HopLemmas.{values_room, values_fit, first_of_values, moved}
use Rattle.h1_rules.proofs.hops.add_lines.Goals as goal

pub loop-value-init : goal.loop-value-init
loop-value-init c =
    let lines = c.args.fields.now.lines in
    record {
      inside = omega arith;
      named = ap (λ (held : List ℕ). names_held held ++ hops lines) c.requires.empty;
      room = omega (arith, values_fit (codes "connection") lines, c.requires.room, ap (λ (held : List ℕ). length held) c.requires.empty);
      capacity = omega arith;
    }

pub add_names-requires : goal.add_names-requires
add_names-requires c =
    omega (arith, ap values_room c.in-Some.ensures.found, c.loop-value.invariant.room)

pub loop-value-preserved : goal.loop-value-preserved
loop-value-preserved c =
    let values = values_of (codes "connection") (drop c.loop-value.from c.args.fields.now.lines) in
    let more = values_of (codes "connection") (drop c.in-Some.next c.args.fields.now.lines) in
    let room = ap values_room c.in-Some.ensures.found in
    record {
      inside = c.in-Some.ensures.within;
      named = ap (λ (names : List (List ℕ)). names ++ hops_of_values more) c.add_names.ensures.names
          ∙ moved (names_held c.loop-value.names.items) (hops_of_values values) (hops_in c.in-Some.value.now) (hops_of_values more)
          (hops c.args.fields.now.lines) c.loop-value.invariant.named (first_of_values values more c.in-Some.value.now c.in-Some.ensures.found);
      room = omega (arith, c.loop-value.invariant.room, c.add_names.ensures.len);
      capacity = omega (arith, c.loop-value.invariant.capacity, c.add_names.ensures.capacity);
    }
