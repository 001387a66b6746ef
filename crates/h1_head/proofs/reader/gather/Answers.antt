use Rattle.std.proofs.Common.{arith, refl, sym, ap, subst, ℕ, ◌∷◌, length, length-append}
use Rattle.std.proofs.lemmas.Bool.{false≢true}
use Rattle.h1_spec.specs.Heads.{EndsBlank}
use Rattle.h1_spec.specs.Heads.{HoldsNoEnd}
use Rattle.h1_head.proofs.Ending.{line_seen, front_seen, line_ends, line_open, no_end_run}
use Rattle.h1_head.proofs.reader.gather.Goals as goal

pub returns-then-ends_blank-clause-some : goal.returns-then-ends_blank-clause-some
returns-then-ends_blank-clause-some c =
    front_seen c.args.seen.now.items c.args.piece.now c.push_line.new.to.items c.in-Some.more.now
    (line_seen c.args.seen.now.items c.args.piece.now c.loop-line.seen.items c.loop-line.rest.now c.in-Some.line.now c.in-Some.more.now c.push_line.new.to.items
    c.in-Some.ensures.whole c.push_line.ensures.items c.loop-line.invariant.seen)

pub returns-then-ends_blank-clause-ends : goal.returns-then-ends_blank-clause-ends
returns-then-ends_blank-clause-ends c =
    line_ends c.args.seen.now.items c.args.piece.now c.loop-line.seen.items c.loop-line.rest.now c.in-Some.line.now c.in-Some.more.now c.push_line.new.to.items
    c.in-Some.ensures.whole c.push_line.ensures.items c.loop-line.invariant.seen c.loop-line.invariant.none c.in-Some.ensures.first
    (subst EndsBlank c.deref.ensures.value (c.if-ends_blank.ensures.0 refl))

pub loop-line-preserved : goal.loop-line-preserved
loop-line-preserved c = record {
  seen = line_seen c.args.seen.now.items c.args.piece.now c.loop-line.seen.items c.loop-line.rest.now c.in-Some.line.now c.in-Some.more.now c.push_line.new.to.items
      c.in-Some.ensures.whole c.push_line.ensures.items c.loop-line.invariant.seen;
  none = line_open c.loop-line.seen.items c.in-Some.line.now c.push_line.new.to.items c.push_line.ensures.items c.loop-line.invariant.none c.in-Some.ensures.first
      (λ h. false≢true (c.if-ends_blank.ensures.1 (subst EndsBlank (sym c.deref.ensures.value) h)));
  capacity = omega arith;
  len = omega (arith, c.push_line.ensures.len, c.loop-line.invariant.len, ap (length {A = ℕ}) c.in-Some.ensures.whole, length-append c.in-Some.line.now (10 ∷ c.in-Some.more.now));
}

pub returns-clause-none : goal.returns-clause-none
returns-clause-none c =
    subst HoldsNoEnd (sym c.push_bytes.ensures.items) (no_end_run c.loop-line.seen.items c.loop-line.rest.now c.loop-line.invariant.none c.in_default.ensures.none)
