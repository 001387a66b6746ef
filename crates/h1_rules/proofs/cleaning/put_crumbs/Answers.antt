use Rattle.std.proofs.Common.{drop, arith}
use Rattle.h1_spec.specs.Cleaning.{values_of, cookie, crumbs}
use Rattle.h1_rules.proofs.Cookies.{none_joined, some_made, crumb_fits, crumb_put, more_begun, all_joined}
use Rattle.h1_rules.proofs.cleaning.put_crumbs.Goals as goal

pub loop-value-init : goal.loop-value-init
loop-value-init c = record { inside = omega arith; joining = none_joined c.args.to.now (crumbs (values_of cookie c.args.fields.now.lines)) c.requires.making }

pub put_crumb-requires-clause-making : goal.put_crumb-requires-clause-making
put_crumb-requires-clause-making c =
    let joining = c.loop-value.invariant.joining in
    some_made c.loop-value.to.making joining.value joining.making

pub put_crumb-requires-clause-spare : goal.put_crumb-requires-clause-spare
put_crumb-requires-clause-spare c =
    let lines = c.args.fields.now.lines in
    crumb_fits c.args.to.now c.loop-value.to c.loop-value.some c.in-Some.value.now (values_of cookie (drop c.loop-value.from lines))
    (values_of cookie (drop c.in-Some.next lines)) (crumbs (values_of cookie lines)) c.in-Some.ensures.found c.loop-value.invariant.joining c.requires.spare

pub loop-value-preserved : goal.loop-value-preserved
loop-value-preserved c =
    let lines = c.args.fields.now.lines in
    let put = crumb_put c.args.to.now c.loop-value.to c.put_crumb.new.to c.loop-value.some c.in-Some.value.now (values_of cookie (drop c.loop-value.from lines))
    (values_of cookie (drop c.in-Some.next lines)) (crumbs (values_of cookie lines)) c.in-Some.ensures.found c.loop-value.invariant.joining
    c.put_crumb.ensures.lines c.put_crumb.ensures.making c.put_crumb.ensures.spare c.put_crumb.ensures.free in
    record { inside = c.in-Some.ensures.within; joining = more_begun c.args.to.now c.put_crumb.new.to c.loop-value.some c.is_empty.result c.in-Some.value.now (crumbs (values_of cookie (drop c.in-Some.next lines))) (crumbs (values_of cookie lines)) c.is_empty.ensures put }

pub returns : goal.returns
returns c =
    let joining = c.loop-value.invariant.joining in
    let all = crumbs (values_of cookie c.args.fields.now.lines) in
    let joined = all_joined c.args.to.now c.loop-value.to c.loop-value.some (values_of cookie (drop c.loop-value.from c.args.fields.now.lines)) all c.in_default.ensures.none joining in
    record { lines = joining.lines; making = joined.making; spare = joined.room; free = joining.free }
