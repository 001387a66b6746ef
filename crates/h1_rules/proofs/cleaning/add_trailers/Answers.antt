use Rattle.std.proofs.Common.{drop, sym, ◌∙◌, ◌+◌}
use Rattle.h1_spec.specs.Cleaning.{without}
use Rattle.h1_rules.specs.Own.{dropped_trailers}
use Rattle.h1_rules.proofs.Adding.{left_out, next_room, added, named_at}
use Rattle.h1_rules.proofs.Cookies.{trailer_dropped, trailer_kept}
use Rattle.h1_rules.proofs.cleaning.add_trailers.Goals as goal

pub loop-i-preserved-then-is_dropped_trailer : goal.loop-i-preserved-then-is_dropped_trailer
loop-i-preserved-then-is_dropped_trailer c =
    let names = dropped_trailers c.args.hops.now.names in
    let lines = c.args.fields.now.lines in
    left_out c.args.cleaned.now c.loop-i.cleaned (without names (drop c.loop-i.i lines)) (without names (drop (c.loop-i.i + 1) lines)) (without names lines)
    (trailer_dropped names lines c.loop-i.i (record { name = c.line.result.0.now; value = c.line.result.1.now }) c.line.ensures.line
    (sym c.is_dropped_trailer.ensures ∙ c.if-is_dropped_trailer.true))
    c.loop-i.invariant

pub push-requires-clause-named : goal.push-requires-clause-named
push-requires-clause-named c =
    named_at c.args.fields.now.lines c.loop-i.i (record { name = c.line.result.0.now; value = c.line.result.1.now }) c.requires.named c.line.ensures.line

pub push-requires-clause-spare : goal.push-requires-clause-spare
push-requires-clause-spare c =
    let names = dropped_trailers c.args.hops.now.names in
    let lines = c.args.fields.now.lines in
    (next_room c.args.cleaned.now c.loop-i.cleaned (without names (drop c.loop-i.i lines)) (without names lines) (record { name = c.line.result.0.now; value = c.line.result.1.now })
    (without names (drop (c.loop-i.i + 1) lines))
    (trailer_kept names lines c.loop-i.i (record { name = c.line.result.0.now; value = c.line.result.1.now }) c.line.ensures.line
    (sym c.is_dropped_trailer.ensures ∙ c.if-is_dropped_trailer.false))
    c.loop-i.invariant).0

pub push-requires-clause-free : goal.push-requires-clause-free
push-requires-clause-free c =
    let names = dropped_trailers c.args.hops.now.names in
    let lines = c.args.fields.now.lines in
    (next_room c.args.cleaned.now c.loop-i.cleaned (without names (drop c.loop-i.i lines)) (without names lines) (record { name = c.line.result.0.now; value = c.line.result.1.now })
    (without names (drop (c.loop-i.i + 1) lines))
    (trailer_kept names lines c.loop-i.i (record { name = c.line.result.0.now; value = c.line.result.1.now }) c.line.ensures.line
    (sym c.is_dropped_trailer.ensures ∙ c.if-is_dropped_trailer.false))
    c.loop-i.invariant).1

pub loop-i-preserved : goal.loop-i-preserved
loop-i-preserved c =
    let names = dropped_trailers c.args.hops.now.names in
    let lines = c.args.fields.now.lines in
    added c.args.cleaned.now c.loop-i.cleaned c.push.new.to (without names (drop c.loop-i.i lines)) (without names lines) (record { name = c.line.result.0.now; value = c.line.result.1.now })
    (without names (drop (c.loop-i.i + 1) lines))
    (trailer_kept names lines c.loop-i.i (record { name = c.line.result.0.now; value = c.line.result.1.now }) c.line.ensures.line
    (sym c.is_dropped_trailer.ensures ∙ c.if-is_dropped_trailer.false))
    c.push.ensures.lines c.push.ensures.making c.push.ensures.spare c.push.ensures.free
    c.loop-i.invariant
