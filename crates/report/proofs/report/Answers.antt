-- `report` meets its contract: the lines of what was found are the report.
use mathlib.Core.Path.{ap, ◌∙◌}
use Rattle.report.specs.Report.{printed, report_of}
use Rattle.report.proofs.report.Goals as goal

pub returns : goal.returns
unfolding report_of
returns c = c.report.ensures ∙ ap printed c.answer.ensures
