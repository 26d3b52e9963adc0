use Rattle.events_tel.proofs.ConfigLaws.{pointwise_same}
use Rattle.folds_judge.specs.Judgement.{judge_status}
use Rattle.folds_judge.proofs.judge.judge_status.Goals as goal

pub returns : goal.returns
unfolding judge_status
returns c = rw (c.eq-agrees.ensures, c.status.ensures.1, pointwise_same)
