use Rattle.std.proofs.Common.{cond, drop, sym, ◌∙◌, ◌+◌, ◌||◌, refl, false}
use Rattle.h1_spec.specs.Cleaning.{values_of, cookie, crumbs}
use Rattle.h1_rules.specs.Own.{dropped_names, own_lines, is_cookie}
use Rattle.h1_rules.proofs.Adding.{left_out, next_room, added, named_at}
use Rattle.h1_rules.proofs.Cookies.{line_dropped, line_kept}
use Rattle.h1_rules.proofs.cleaning.add_own.Goals as goal

pub loop-i-preserved-then-is_dropped : goal.loop-i-preserved-then-is_dropped
loop-i-preserved-then-is_dropped c =
    let names = dropped_names c.args.hops.now.names c.args.drop_host in
    let lines = c.args.fields.now.lines in
    let joined = crumbs (values_of cookie lines) in
    left_out c.args.cleaned.now c.loop-i.cleaned (own_lines names joined c.loop-i.joined (drop c.loop-i.i lines))
    (own_lines names joined c.loop-i.joined (drop (c.loop-i.i + 1) lines)) (own_lines names joined false lines)
    (line_dropped names joined c.loop-i.joined lines c.loop-i.i (record { name = c.line.result.0.now; value = c.line.result.1.now }) c.line.ensures.line
    (sym c.is_dropped.ensures ∙ c.if-is_dropped.true))
    c.loop-i.invariant

pub push_own-requires-clause-named : goal.push_own-requires-clause-named
push_own-requires-clause-named c =
    named_at c.args.fields.now.lines c.loop-i.i (record { name = c.line.result.0.now; value = c.line.result.1.now }) c.requires.named c.line.ensures.line

pub push_own-requires-clause-spare : goal.push_own-requires-clause-spare
push_own-requires-clause-spare c =
    let names = dropped_names c.args.hops.now.names c.args.drop_host in
    let lines = c.args.fields.now.lines in
    let joined = crumbs (values_of cookie lines) in
    let name = c.line.result.0.now in
    let value = cond (is_cookie name) joined c.line.result.1.now in
    (next_room c.args.cleaned.now c.loop-i.cleaned (own_lines names joined c.loop-i.joined (drop c.loop-i.i lines)) (own_lines names joined false lines)
    (record { name = name; value = value }) (own_lines names joined (c.loop-i.joined || is_cookie name) (drop (c.loop-i.i + 1) lines))
    (line_kept names joined c.loop-i.joined lines c.loop-i.i name c.line.result.1.now value (is_cookie name)
    c.line.ensures.line (sym c.is_dropped.ensures ∙ c.if-is_dropped.false) refl refl)
    c.loop-i.invariant).0

pub push_own-requires-clause-free : goal.push_own-requires-clause-free
push_own-requires-clause-free c =
    let names = dropped_names c.args.hops.now.names c.args.drop_host in
    let lines = c.args.fields.now.lines in
    let joined = crumbs (values_of cookie lines) in
    let name = c.line.result.0.now in
    let value = cond (is_cookie name) joined c.line.result.1.now in
    (next_room c.args.cleaned.now c.loop-i.cleaned (own_lines names joined c.loop-i.joined (drop c.loop-i.i lines)) (own_lines names joined false lines)
    (record { name = name; value = value }) (own_lines names joined (c.loop-i.joined || is_cookie name) (drop (c.loop-i.i + 1) lines))
    (line_kept names joined c.loop-i.joined lines c.loop-i.i name c.line.result.1.now value (is_cookie name)
    c.line.ensures.line (sym c.is_dropped.ensures ∙ c.if-is_dropped.false) refl refl)
    c.loop-i.invariant).1

pub loop-i-preserved : goal.loop-i-preserved
loop-i-preserved c =
    let names = dropped_names c.args.hops.now.names c.args.drop_host in
    let lines = c.args.fields.now.lines in
    let joined = crumbs (values_of cookie lines) in
    let name = c.line.result.0.now in
    let value = cond (is_cookie name) joined c.line.result.1.now in
    added c.args.cleaned.now c.loop-i.cleaned c.push_own.new.to (own_lines names joined c.loop-i.joined (drop c.loop-i.i lines)) (own_lines names joined false lines)
    (record { name = name; value = value }) (own_lines names joined (c.loop-i.joined || c.is_cookie-joined.result) (drop (c.loop-i.i + 1) lines))
    (line_kept names joined c.loop-i.joined lines c.loop-i.i name c.line.result.1.now value c.is_cookie-joined.result
    c.line.ensures.line (sym c.is_dropped.ensures ∙ c.if-is_dropped.false) refl c.is_cookie-joined.ensures)
    c.push_own.ensures.lines c.push_own.ensures.making c.push_own.ensures.spare c.push_own.ensures.free
    c.loop-i.invariant
