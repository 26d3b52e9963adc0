use borrow.Author.Tests.{ne_eqb}
use Rattle.host_report.specs.Reports.{plain_report}
use Rattle.host_report.proofs.report.report_plain.Goals as goal

pub returns-then-number-eq0 : goal.returns-then-number-eq0
unfolding plain_report
returns-then-number-eq0 c = rw c.if-number-eq0.true c.write_report.ensures

pub returns : goal.returns
unfolding plain_report
returns c = rw (ne_eqb _ _ c.if-number-eq0.false) c.write_report-2.ensures
