use mathlib.Core.Path.{refl, ◌∙◌}
use Rattle.host_values.specs.ReportValues.{values_of}
use Rattle.host_report.proofs.ReportWrites.{report-put}
use borrow.Author.Rules.{rules}
use Rattle.host_report.proofs.report.write_report.Goals as goal

pub returns : goal.returns
returns c =
    let a = c.args in
    (refl, c.write-2.ensures.1 ∙ rw (c.write.ensures.1, c.put_marks.ensures) (report-put a.report.now (values_of a.values) a.number a.letter a.awaited _ _ _ (search rules) c.count.ensures c.first.ensures c.second.ensures))
