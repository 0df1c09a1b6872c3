use Rattle.sl_gap.proofs.SomeReport.{a_report}
use Rattle.sl_gap.proofs.laws.some_report.Goals as goal

pub returns : goal.returns
returns c = a_report
