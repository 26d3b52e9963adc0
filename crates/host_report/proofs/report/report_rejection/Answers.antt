use Rattle.host_report.proofs.report.report_rejection.Goals as goal

pub returns : goal.returns
returns c =
    let e = rw (c.details.ensures, c.awaited.ensures, c.letter.ensures, c.number.ensures, c.disposition-d.ensures) at c.write_report.ensures in
    e
