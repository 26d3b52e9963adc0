use Rattle.events_tel.proofs.ConfigLaws.{pointwise_same}
use Rattle.folds_judge.proofs.part.same_report.Goals as goal

pub returns : goal.returns
returns c = rw (c.eq.ensures, c.report_answer.ensures.1, pointwise_same)
