use Rattle.std.proofs.Common.{◌∙◌, ap}
use Rattle.bh_text.specs.Reports.{report_line}
use Rattle.bh_cmd.proofs.Lines.{printed}
use Rattle.bh_cmd.proofs.printing.print.Goals as goal

pub returns : goal.returns
returns g c = printed g.met.E.Sink.write_law _ _ (c.write_line-end.ensures.text ∙ ap report_line c.report.ensures) c.write_all.result c.write_all.ensures
