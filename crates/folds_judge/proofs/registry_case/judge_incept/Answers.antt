use mathlib.Core.Path.{◌∙◌}
use Rattle.registry_state.specs.States.{no_registry}
use Rattle.folds_judge.specs.Judgement.{judge_incept}
use Rattle.folds_judge.proofs.Laws.{blank-registry}
use Rattle.folds_judge.proofs.registry_case.judge_incept.Goals as goal

pub returns : goal.returns
unfolding judge_incept
returns c = c.registry_agrees.ensures no_registry ∙ rw (c.incept_with_evidence.ensures.outcome, blank-registry)
