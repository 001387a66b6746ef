use Rattle.bh_base.proofs.Putting.{puts_as}
use Rattle.bh_text.proofs.Sections.{trailer_lines}
use Rattle.bh_text.proofs.lines.put_trailers.Goals as goal

pub returns : goal.returns
returns g c = puts_as (trailer_lines c.args.fields.now.lines) c.put_section.ensures
