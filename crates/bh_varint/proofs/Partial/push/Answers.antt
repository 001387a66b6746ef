use Rattle.std.proofs.Common.{◌<◌, ◌++◌, ◌∷◌, [], ℕ, List, IsTrue, arith, refl}
use Rattle.bh_spec.specs.Integers.{SomeBegins, byte_count}
use Rattle.bh_varint.specs.declared.Step.TheVariants.{More, Value, Dead}
use Rattle.bh_varint.specs.Step.{GoesOn, IsWhole}
use Rattle.bh_varint.proofs.Growing.{reads_begun, reads_value, reads_unfinished, reads_test}
use Rattle.bh_varint.proofs.Steps.{value_exactly, more_exactly, dead_exactly}
use Rattle.bh_varint.proofs.Partial.push.Goals as goal

-- no allowed number begins so
pub returns-then-not-is_alive : goal.returns-then-not-is_alive
returns-then-not-is_alive c =
    let bytes : List ℕ = c.args.self.now ++ c.args.byte ∷ [] in
    let b = c.with-begun.result in
    let test = reads_test c.args.set.now bytes b (IsTrue c.is_alive.result) c.with-begun.ensures.reads c.is_alive.ensures in
    let none : SomeBegins c.args.set.now bytes → ⊥ = λ s. absurd (cc (test.1 s, c.if-not-is_alive.true)) in
    record {
      value = value_exactly _ _ Dead none;
      more = more_exactly _ _ Dead none;
      dead = dead_exactly _ _ Dead none;
      shows = none;
      kept = refl;
      unfinished = c.with-begun.ensures.unfinished;
    }

-- all the bytes of the width
pub returns-then-begun-bytes : goal.returns-then-begun-bytes
returns-then-begun-bytes c =
    let bytes : List ℕ = c.args.self.now ++ c.args.byte ∷ [] in
    let b = c.with-begun.result in
    let reads = c.with-begun.ensures.reads in
    let test = reads_test c.args.set.now bytes b (IsTrue c.is_alive.result) reads c.is_alive.ensures in
    let whole : IsWhole c.args.set.now bytes b.value b.width =
    reads_value _ _ b reads (omega arith) (test.0 c.if-not-is_alive.false) in
    record {
      value = value_exactly _ _ (Value b.value b.width) whole;
      more = more_exactly _ _ (Value b.value b.width) whole;
      dead = dead_exactly _ _ (Value b.value b.width) whole;
      shows = whole;
      kept = refl;
      unfinished = c.with-begun.ensures.unfinished;
    }

-- fewer bytes
pub invariant_of-self-2 : goal.invariant_of-self-2
invariant_of-self-2 c = (c.with-begun.ensures.stored, omega (arith, c.with-begun.ensures.stored.fits))

pub returns : goal.returns
returns c =
    let bytes : List ℕ = c.args.self.now ++ c.args.byte ∷ [] in
    let b = c.with-begun.result in
    let reads = c.with-begun.ensures.reads in
    let test = reads_test c.args.set.now bytes b (IsTrue c.is_alive.result) reads c.is_alive.ensures in
    let short : b.count < byte_count b.width = omega (arith, reads.fits) in
    let part : GoesOn c.args.set.now bytes = record {
      begins = test.0 c.if-not-is_alive.false;
      unfinished = reads_unfinished _ b reads short;
    } in
    record {
      value = value_exactly _ _ More part;
      more = more_exactly _ _ More part;
      dead = dead_exactly _ _ More part;
      shows = part;
      kept = reads_begun _ b reads;
      unfinished = c.with-begun.ensures.unfinished;
    }
