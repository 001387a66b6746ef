use Rattle.std.proofs.Common.{◌++◌, ◌∷◌, [], ℕ, List, get_or, arith, sym, subst, ◌∙◌}
use Rattle.bh_spec.specs.Integers.{SomeBegins}
use Rattle.bh_varint.specs.Step.{IsUnfinished}
use Rattle.bh_varint.proofs.Reading.{unfinished_nil}
use Rattle.bh_spec.proofs.Pieces.{next_taken, all_taken}
use Rattle.bh_decode.proofs.Numbers.{up_to, nothing_begins, number_whole, number_dead, number_ended}
use Rattle.bh_decode.proofs.number.read_number.Goals as goal

pub loop-i-init : goal.loop-i-init
loop-i-init c = record {
  so_far = c.new-partial.ensures;
  begins = subst (λ (x : List ℕ). SomeBegins (up_to c.args.most) x) (sym c.new-partial.ensures) (nothing_begins c.args.most);
  unfinished = subst IsUnfinished (sym c.new-partial.ensures) unfinished_nil;
}

pub loop-i-preserved : goal.loop-i-preserved
loop-i-preserved c =
    let kept = c.in-More.ensures.kept in
    let on = c.in-More.ensures.shows in
    record {
      so_far = kept ∙ next_taken c.loop-i.partial [] c.args.bytes.now c.loop-i.i c.loop-i.invariant.so_far c.loop-i-test.true;
      begins = subst (λ (x : List ℕ). SomeBegins (up_to c.args.most) x) (sym kept) on.begins;
      unfinished = subst IsUnfinished (sym kept) on.unfinished;
    }

pub returns-in-Value-clause-whole : goal.returns-in-Value-clause-whole
returns-in-Value-clause-whole c =
    number_whole c.args.part c.args.most c.args.bytes.now (c.loop-i.partial ++ get_or c.args.bytes.now c.loop-i.i 0 ∷ []) c.loop-i.i c.in-Value.value c.in-Value.width
    (next_taken c.loop-i.partial [] c.args.bytes.now c.loop-i.i c.loop-i.invariant.so_far c.loop-i-test.true) c.loop-i-test.true c.in-Value.ensures.shows

pub returns-in-Dead-clause-stops : goal.returns-in-Dead-clause-stops
returns-in-Dead-clause-stops c =
    number_dead c.args.part c.args.most c.args.bytes.now c.loop-i.partial (c.loop-i.partial ++ get_or c.args.bytes.now c.loop-i.i 0 ∷ []) c.loop-i.i c.loop-i.invariant
    (next_taken c.loop-i.partial [] c.args.bytes.now c.loop-i.i c.loop-i.invariant.so_far c.loop-i-test.true) c.loop-i-test.true c.in-Dead.ensures.shows

pub returns-clause-stops : goal.returns-clause-stops
returns-clause-stops c =
    number_ended c.args.part c.args.most c.args.bytes.now c.loop-i.partial
    (all_taken c.loop-i.partial [] c.args.bytes.now c.loop-i.i c.loop-i.invariant.so_far (omega (arith, c.loop-i.auto.i-end)) (omega (arith, c.loop-i-test.false)))
    c.loop-i.invariant.begins c.loop-i.invariant.unfinished
