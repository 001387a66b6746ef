use Rattle.std.proofs.Common.{arith, ◌≤◌, ◌+◌, ◌-◌, ◌∙◌, List, ℕ, Some, length, take, ap, sym, subst, inl}
use Rattle.std.proofs.lemmas.List.{length-drop}
use Rattle.h1_spec.specs.BodyStates.{Moves, start}
use Rattle.h1_body.specs.declared.reader.BodyStep.TheVariants as steps
use Rattle.h1_body.specs.Contents.{IsContent}
use Rattle.h1_body.specs.Readers.{SaysBody}
use Rattle.h1_body.proofs.WholeSteps.{Made, made_here, run_more, is_over, all_over, whole_made, over_whole, is_wrong, is_short}
use Rattle.h1_body.proofs.whole.read_body.Goals as goal

pub loop-reader-init : goal.loop-reader-init
loop-reader-init c = record {
  inside = omega arith;
  kept = c.in-Ok.ensures.open;
  section = c.in-Ok.ensures.section;
  made = subst (λ (z : List ℕ). Made c.args.limits.now.section c.args.framing c.args.bytes.now 0 z c.in-Ok.reader.at) (sym c.new-content.ensures.items)
      (made_here c.args.limits.now.section c.args.framing c.args.bytes.now c.in-Ok.reader.at c.in-Ok.ensures.start);
}

pub returns-in-Need : goal.returns-in-Need
returns-in-Need c =
    let v = c.loop-reader.reader.at in
    let w = c.push.new.self.at in
    is_short c.args.limits.now.section c.loop-reader.reader.section c.args.framing c.args.bytes.now c.loop-reader.content.items c.loop-reader.at v w
    c.loop-reader.invariant.section c.loop-reader.invariant.made
    (subst (λ (z : List ℕ). SaysBody c.loop-reader.reader.section v z steps.Need w) c.behind.ensures c.in-Need.ensures.says)
    (c.is_done.ensures.more c.loop-reader-test.true)

pub loop-reader-preserved : goal.loop-reader-preserved
loop-reader-preserved c =
    let v = c.loop-reader.reader.at in
    let w = c.push.new.self.at in
    let left = length-drop c.loop-reader.at c.args.bytes.now in
    record {
      inside = omega (arith, c.in-Content.ensures.says.inside, ap (length {A = ℕ}) c.behind.ensures, left, c.loop-reader.invariant.inside);
      kept = c.in-Content.ensures.refused;
      section = c.loop-reader.invariant.section ∙ ap (λ (n : ℕ). Some n) (sym c.in-Content.ensures.section);
      made = λ L l. subst (λ (z : List ℕ). Moves L (start c.args.framing) (take (c.loop-reader.at + c.in-Content.taken) c.args.bytes.now) z w) (sym (c.append.ensures c.if-not-append.false))
          (run_more L (start c.args.framing) v w c.args.bytes.now c.loop-reader.content.items c.in-Content.run'.now c.loop-reader.at c.in-Content.taken (c.loop-reader.invariant.made L l)
          (subst (λ (z : List ℕ). IsContent v z c.in-Content.taken c.in-Content.run'.now w) c.behind.ensures c.in-Content.ensures.says));
    }

pub returns-in-Whole : goal.returns-in-Whole
returns-in-Whole c =
    let v = c.loop-reader.reader.at in
    let w = c.push.new.self.at in
    let left = length-drop c.loop-reader.at c.args.bytes.now in
    let inside : c.loop-reader.at + c.in-Whole.taken ≤ length c.args.bytes.now = omega (arith, c.in-Whole.ensures.says.0, ap (length {A = ℕ}) c.behind.ensures, left, c.loop-reader.invariant.inside) in
    let says = subst (λ (z : List ℕ). SaysBody c.loop-reader.reader.section v z (steps.Whole c.in-Whole.taken) w) c.behind.ensures c.in-Whole.ensures.says in
    let made = whole_made c.args.limits.now.section c.loop-reader.reader.section c.args.framing c.args.bytes.now c.loop-reader.content.items c.loop-reader.at c.in-Whole.taken v w
    c.loop-reader.invariant.section c.loop-reader.invariant.made says in
    let done = over_whole c.loop-reader.reader.section v w c.behind.result.now c.in-Whole.taken c.in-Whole.ensures.says in
    record {
      inside = inside;
      is = is_over c.args.limits.now.section c.args.framing c.args.bytes.now _ (c.loop-reader.at + c.in-Whole.taken) 1 w _ (rw (sym c.from_vec.ensures) at made) (inl done)
          (c.into_trailers.ensures.lines c.in-Whole.ensures.refused);
      all = all_over c.args.limits.now.section c.args.framing c.args.bytes.now c.loop-reader.content.items (c.loop-reader.at + c.in-Whole.taken) 1 w made (inl done) inside (λ e. absurd (omega (arith, e)));
      made = c.into_trailers.ensures.made c.in-Whole.ensures.refused;
    }

pub returns-in-Refused : goal.returns-in-Refused
returns-in-Refused c =
    let v = c.loop-reader.reader.at in
    let w = c.push.new.self.at in
    is_wrong c.args.limits.now.section c.loop-reader.reader.section c.args.framing c.args.bytes.now c.loop-reader.content.items c.loop-reader.at v w c.in-Refused.cause
    c.loop-reader.invariant.section c.loop-reader.invariant.made
    (subst (λ (z : List ℕ). SaysBody c.loop-reader.reader.section v z (steps.Refused c.in-Refused.cause) w) c.behind.ensures c.in-Refused.ensures.says)

pub returns : goal.returns
returns c =
    let v = c.loop-reader.reader.at in
    let made = c.loop-reader.invariant.made in
    let inside = c.loop-reader.invariant.inside in
    let done = c.is_done.ensures.done c.loop-reader-test.false in
    record {
      inside = inside;
      is = is_over c.args.limits.now.section c.args.framing c.args.bytes.now _ c.loop-reader.at _ v _ (rw (sym c.from_vec-2.ensures) at made) done
          (c.into_trailers-2.ensures.lines c.loop-reader.invariant.kept);
      all = all_over c.args.limits.now.section c.args.framing c.args.bytes.now c.loop-reader.content.items c.loop-reader.at (length c.args.bytes.now - c.loop-reader.at) v made done inside
          (λ e. omega (arith, e, inside));
      made = c.into_trailers-2.ensures.made c.loop-reader.invariant.kept;
    }
