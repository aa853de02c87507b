use Rattle.group_check.proofs.ReportLemmas.{one_report}
use Rattle.group_check.proofs.laws.one_report.Goals as goal

pub returns : goal.returns
returns c = one_report
