use Rattle.std.proofs.Common.{◌<◌, length, ap, sym, ◌∙◌, arith}
use Rattle.bh_spec.specs.Listing.{joined, content_lines}
use Rattle.bh_base.proofs.Putting.{puts_as}
use Rattle.bh_text.proofs.Cutting.{one_line}
use Rattle.bh_text.proofs.show.put_last.Goals as goal

pub returns-then-not-is_empty : goal.returns-then-not-is_empty
returns-then-not-is_empty g c =
    let some : 0 < length c.as_slice-bytes.result.now = search arith in
    puts_as (ap joined (sym (one_line c.as_slice-bytes.result.now some c.as_slice-bytes.ensures.few)) ∙ ap (λ l. joined (content_lines l)) c.as_slice-bytes.ensures.bytes) c.put_content.ensures
