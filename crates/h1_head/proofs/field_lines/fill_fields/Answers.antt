use Rattle.std.proofs.Common.{arith, sym, ◌∙◌}
use Rattle.std.proofs.lemmas.List.{length-take-le}
use Rattle.h1_head.proofs.field_lines.fill_fields.Goals as goal

pub slice_bounds-fill_lines-end : goal.slice_bounds-fill_lines-end
slice_bounds-fill_lines-end c = omega (arith, c.in-Some.ensures.few, c.requires.room)

pub fill_lines-requires-clause-even : goal.fill_lines-requires-clause-even
fill_lines-requires-clause-even c =
    let fits = length-take-le c.in-Some.lines c.args.spans.now (omega (arith, c.in-Some.ensures.few, c.requires.room)) in
    record { feeds = fits ∙ c.in-Some.ensures.even.feeds; returns = c.in-Some.ensures.even.returns ∙ sym fits }
