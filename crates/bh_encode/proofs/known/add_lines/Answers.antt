use Rattle.std.proofs.Common.{ℕ, List, ◌++◌, ◌∙◌, ap}
use Rattle.bh_spec.specs.Canonical.{string}
use Rattle.bh_encode.proofs.Adding.{line_added}
use Rattle.bh_encode.proofs.known.add_lines.Goals as goal

pub loop-i-preserved : goal.loop-i-preserved
loop-i-preserved c =
    line_added c.args.text.now.items c.loop-i.text.items c.add_string-in-loop-i.new.text.items c.args.fields.now.lines c.loop-i.i _ c.line.ensures.line c.loop-i.invariant
    (c.in_ok-add_string-2.ensures ∙ ap (λ (x : List ℕ). x ++ string c.line.result.1.now) c.in_ok-add_string.ensures)
