use Rattle.laws.proofs.Words.{same_refl}
use Rattle.registry_state.specs.States.{registry_bytes}
use Rattle.folds_judge.specs.Judgement.{registry_agrees}
use Rattle.folds_judge.proofs.Laws.{and-kept}
use Rattle.folds_judge.proofs.registry_case.registry_agrees.Goals as goal

pub returns-in-Ok : goal.returns-in-Ok
unfolding registry_agrees
returns-in-Ok c g = rw (c.in-Ok.is, c.same_report-told.ensures, c.same_registry.ensures)

pub returns-in-Err : goal.returns-in-Err
unfolding registry_agrees
returns-in-Err c g =
    rw (c.in-Err.is, ← c.same_report-agrees.ensures, ← and-kept c.same_report-agrees.result _ (same_refl (registry_bytes g)))
