use Rattle.sl_gap.proofs.OneReport.{one_report}
use Rattle.sl_gap.proofs.laws.report_is_one.Goals as goal

pub returns : goal.returns
returns c = one_report
