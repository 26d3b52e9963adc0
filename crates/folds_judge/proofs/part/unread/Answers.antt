use Rattle.folds_judge.specs.Judgement.{unread}
use Rattle.folds_judge.proofs.part.unread.Goals as goal

pub returns : goal.returns
unfolding unread
returns c = rw c.same_report-agrees.ensures
