use Rattle.std.proofs.Common.{Ok, Err, arith}
use Rattle.std.proofs.lemmas.Result.{err_from_is_err_and}
use Rattle.bh_decode.specs.declared.spelling.ReadError.TheVariants.{Refused}
use Rattle.bh_decode.proofs.Making.{sofar_on, says_refused, says_failed, says_made, ready, only_message}
use Rattle.bh_decode.proofs.reading.read_message.Goals as goal

pub returns-in_err-taken-clause-says : goal.returns-in_err-taken-clause-says
returns-in_err-taken-clause-says c =
    let p = err_from_is_err_and c.from_residual-in_err-taken.result c.from_residual-in_err-taken.ensures.1 in
    rw (p.1, p.2)
    (says_refused c.args.limits.now c.args.bytes.now c.behind.result.now c.loop-at.at c.loop-at.decoder c.take.new.decoder c.loop-at.gathered c.in_err-taken.field-0.0 c.behind.ensures
    c.loop-at.invariant c.in_err-taken.ensures.refused)

pub returns-in_err-taken-clause-only : goal.returns-in_err-taken-clause-only
returns-in_err-taken-clause-only c = λ answer a. only_message c.args.limits.now c.args.bytes.now answer c.from_residual-in_err-taken.result (returns-in_err-taken-clause-says c) a

pub loop-at-preserved : goal.loop-at-preserved
loop-at-preserved c =
    sofar_on c.args.limits.now c.args.bytes.now c.behind.result.now c.loop-at.at c.in_ok-taken.taken c.loop-at.decoder c.take.new.decoder c.loop-at.gathered c.take.new.self c.behind.ensures
    c.loop-at.invariant c.in_ok-taken.ensures.taken

pub message-requires : goal.message-requires
message-requires c =
    let r = ready c.args.limits.now c.args.bytes.now c.loop-at.at c.loop-at.decoder c.loop-at.gathered c.in-Ok.field-0.omitted c.in-Ok.field-0.padding c.finish.new.self.decoder
    (omega (arith, c.loop-at-test.false)) c.loop-at.invariant c.in-Ok.ensures.ends in
    (r.message, r.valid, r.parts)

pub returns-in_err-message-in-Ok-clause-only : goal.returns-in_err-message-in-Ok-clause-only
returns-in_err-message-in-Ok-clause-only c = λ answer a.
    let p = err_from_is_err_and c.from_residual-in_err-message-in-Ok.result c.from_residual-in_err-message-in-Ok.ensures.1 in
    rw (p.1, p.2) tt

pub returns-in-Ok-clause-says : goal.returns-in-Ok-clause-says
returns-in-Ok-clause-says c =
    let r = ready c.args.limits.now c.args.bytes.now c.loop-at.at c.loop-at.decoder c.loop-at.gathered c.in-Ok.field-0.omitted c.in-Ok.field-0.padding c.finish.new.self.decoder
    (omega (arith, c.loop-at-test.false)) c.loop-at.invariant c.in-Ok.ensures.ends in
    says_made c.args.limits.now c.args.bytes.now c.loop-at.gathered c.in_ok-message-in-Ok.field-0 r c.in_ok-message-in-Ok.ensures

pub returns-in-Ok-clause-only : goal.returns-in-Ok-clause-only
returns-in-Ok-clause-only c = λ answer a.
    only_message c.args.limits.now c.args.bytes.now answer (Ok c.in_ok-message-in-Ok.field-0) (returns-in-Ok-clause-says c) a

pub returns-clause-says : goal.returns-clause-says
returns-clause-says c =
    says_failed c.args.limits.now c.args.bytes.now c.loop-at.at c.loop-at.decoder c.loop-at.gathered c.in-Err.refusal c.finish.new.self.decoder (omega (arith, c.loop-at-test.false))
    c.loop-at.invariant c.in-Err.ensures.fails

pub returns-clause-only : goal.returns-clause-only
returns-clause-only c = λ answer a. only_message c.args.limits.now c.args.bytes.now answer (Err (Refused c.in-Err.refusal)) (returns-clause-says c) a
