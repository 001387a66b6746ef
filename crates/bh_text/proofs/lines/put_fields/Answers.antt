use Rattle.bh_base.proofs.Putting.{puts_as}
use Rattle.bh_text.proofs.Sections.{field_lines}
use Rattle.bh_text.proofs.lines.put_fields.Goals as goal

pub returns : goal.returns
returns g c = puts_as (field_lines c.args.fields.now.lines) c.put_section.ensures
