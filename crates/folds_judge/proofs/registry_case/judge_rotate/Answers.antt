use mathlib.Core.Path.{◌∙◌}
use Rattle.registry_state.specs.States.{view_registry}
use Rattle.registry.specs.RegistryFolds.{ingest_of}
use Rattle.folds_judge.specs.Judgement.{judge_rotate}
use Rattle.folds_judge.proofs.registry_case.judge_rotate.Goals as goal

pub returns-in-Some : goal.returns-in-Some
unfolding judge_rotate ingest_of
returns-in-Some c =
    c.registry_agrees.ensures (view_registry c.in-Some.g)
    ∙ rw (c.ingest.ensures.outcome, ← c.in-Some.ensures.view, c.in-Some.ensures.well, c.in-Some.ensures.bytes)

pub returns-in-None : goal.returns-in-None
unfolding judge_rotate
returns-in-None c = c.unread.ensures ∙ rw (← c.in-None.ensures.view)
