use Rattle.std.proofs.Common.{◌+◌, List, length, drop, refl, sym, subst, ◌∙◌, arith}
use Rattle.std.proofs.lemmas.List.{length-drop}
use Rattle.bh_model.specs.declared.informational.Interim as held
use Rattle.bh_decode.specs.declared.opening.ResponsePart.{ResponsePart}
use Rattle.bh_decode.specs.declared.opening.ResponsePart.TheVariants as found
use Rattle.bh_decode.specs.Responses.{ResponsePartIs}
use Rattle.bh_decode.proofs.Openings.{Opened, none_opened, opened_more, opening_whole, opening_behind, opening_anyway, opening_fault, part_here, fault_here, part_long}
use Rattle.bh_decode.proofs.opening.read_opening.Goals as goal

pub loop-interim-init : goal.loop-interim-init
loop-interim-init c = record {
  opened = subst (λ (is : List held.Interim). Opened c.args.reader.now.limits c.args.form is c.args.bytes.now 0) (sym c.none-interims.ensures) (none_opened c.args.reader.now.limits c.args.form c.args.bytes.now);
  limits = refl;
}

pub loop-interim-smaller : goal.loop-interim-smaller
loop-interim-smaller c =
    let step = part_here c.loop-interim.reader.limits c.args.reader.now.limits c.args.form c.len.result (length c.loop-interim.interims) c.behind-rest.result.now (drop c.loop-interim.done c.args.bytes.now)
    (found.Interim c.in-Ok-Interim.interim c.in-Ok-Interim.taken) c.loop-interim.invariant.limits c.len.ensures c.behind-rest.ensures (subst (λ (x : ResponsePart). ResponsePartIs c.loop-interim.reader.limits c.args.form c.len.result c.behind-rest.result.now x) c.in-Ok-Interim.field-0-is c.in-Ok-Interim.ensures.whole) in
    let long = part_long c.args.reader.now.limits c.args.form (length c.loop-interim.interims) (drop c.loop-interim.done c.args.bytes.now) c.in-Ok-Interim.interim c.in-Ok-Interim.taken step in
    omega (arith, long.0, long.1, length-drop c.loop-interim.done c.args.bytes.now, c.loop-interim.invariant.opened.within)

pub loop-interim-preserved : goal.loop-interim-preserved
loop-interim-preserved c =
    let step = part_here c.loop-interim.reader.limits c.args.reader.now.limits c.args.form c.len.result (length c.loop-interim.interims) c.behind-rest.result.now (drop c.loop-interim.done c.args.bytes.now)
    (found.Interim c.in-Ok-Interim.interim c.in-Ok-Interim.taken) c.loop-interim.invariant.limits c.len.ensures c.behind-rest.ensures (subst (λ (x : ResponsePart). ResponsePartIs c.loop-interim.reader.limits c.args.form c.len.result c.behind-rest.result.now x) c.in-Ok-Interim.field-0-is c.in-Ok-Interim.ensures.whole) in
    record {
      opened = subst (λ (is : List held.Interim). Opened c.args.reader.now.limits c.args.form is c.args.bytes.now (c.loop-interim.done + c.in-Ok-Interim.taken)) (sym c.in_ok-push-in-Ok-Interim.ensures.ok)
          (opened_more c.args.reader.now.limits c.args.form c.loop-interim.interims c.in-Ok-Interim.interim c.args.bytes.now c.loop-interim.done c.in-Ok-Interim.taken c.loop-interim.invariant.opened step);
      limits = c.in-Ok-Interim.ensures.limits ∙ c.loop-interim.invariant.limits;
    }

pub returns-in-Ok-Final-clause-whole : goal.returns-in-Ok-Final-clause-whole
returns-in-Ok-Final-clause-whole c =
    opening_whole c.args.reader.now.limits c.args.form c.loop-interim.interims c.in-Ok-Final.status c.args.bytes.now c.loop-interim.done c.in-Ok-Final.taken c.loop-interim.invariant.opened
    (part_here c.loop-interim.reader.limits c.args.reader.now.limits c.args.form c.len.result (length c.loop-interim.interims) c.behind-rest.result.now (drop c.loop-interim.done c.args.bytes.now)
    (found.Final c.in-Ok-Final.status c.in-Ok-Final.taken) c.loop-interim.invariant.limits c.len.ensures c.behind-rest.ensures (subst (λ (x : ResponsePart). ResponsePartIs c.loop-interim.reader.limits c.args.form c.len.result c.behind-rest.result.now x) c.in-Ok-Final.field-0-is c.in-Ok-Final.ensures.whole))

pub returns-in-Ok-Final-clause-behind : goal.returns-in-Ok-Final-clause-behind
returns-in-Ok-Final-clause-behind c =
    opening_behind c.args.reader.now.limits c.args.form c.loop-interim.interims c.in-Ok-Final.status c.args.bytes.now c.loop-interim.done c.in-Ok-Final.taken c.loop-interim.invariant.opened
    (part_here c.loop-interim.reader.limits c.args.reader.now.limits c.args.form c.len.result (length c.loop-interim.interims) c.behind-rest.result.now (drop c.loop-interim.done c.args.bytes.now)
    (found.Final c.in-Ok-Final.status c.in-Ok-Final.taken) c.loop-interim.invariant.limits c.len.ensures c.behind-rest.ensures (subst (λ (x : ResponsePart). ResponsePartIs c.loop-interim.reader.limits c.args.form c.len.result c.behind-rest.result.now x) c.in-Ok-Final.field-0-is c.in-Ok-Final.ensures.whole))

pub returns-in-Ok-Final-clause-anyway : goal.returns-in-Ok-Final-clause-anyway
returns-in-Ok-Final-clause-anyway c =
    opening_anyway c.args.reader.now.limits c.args.form c.loop-interim.interims c.in-Ok-Final.status c.args.bytes.now c.loop-interim.done c.in-Ok-Final.taken c.loop-interim.invariant.opened
    (part_here c.loop-interim.reader.limits c.args.reader.now.limits c.args.form c.len.result (length c.loop-interim.interims) c.behind-rest.result.now (drop c.loop-interim.done c.args.bytes.now)
    (found.Final c.in-Ok-Final.status c.in-Ok-Final.taken) c.loop-interim.invariant.limits c.len.ensures c.behind-rest.ensures (subst (λ (x : ResponsePart). ResponsePartIs c.loop-interim.reader.limits c.args.form c.len.result c.behind-rest.result.now x) c.in-Ok-Final.field-0-is c.in-Ok-Final.ensures.whole))

pub returns-in-Err-clause-stops : goal.returns-in-Err-clause-stops
returns-in-Err-clause-stops c =
    rw (c.behind.ensures)
    (opening_fault c.args.reader.now.limits c.args.form c.loop-interim.interims c.args.bytes.now c.loop-interim.done c.in-Err.fault c.loop-interim.invariant.opened
    (fault_here c.loop-interim.reader.limits c.args.reader.now.limits c.args.form c.len.result (length c.loop-interim.interims) c.behind-rest.result.now (drop c.loop-interim.done c.args.bytes.now) c.in-Err.fault
    c.loop-interim.invariant.limits c.len.ensures c.behind-rest.ensures c.in-Err.ensures.stops))
