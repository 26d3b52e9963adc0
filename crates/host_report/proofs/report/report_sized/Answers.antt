use Rattle.host_report.proofs.report.report_sized.Goals as goal

pub returns : goal.returns
returns c = rw c.small.ensures at c.report_with.ensures
