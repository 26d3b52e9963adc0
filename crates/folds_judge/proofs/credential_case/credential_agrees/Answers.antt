use Rattle.laws.proofs.Words.{same_refl}
use Rattle.registry_state_credential.specs.CredentialStates.{credential_bytes}
use Rattle.folds_judge.specs.Judgement.{credential_agrees}
use Rattle.folds_judge.proofs.Laws.{and-kept}
use Rattle.folds_judge.proofs.credential_case.credential_agrees.Goals as goal

pub returns-in-Ok : goal.returns-in-Ok
unfolding credential_agrees
returns-in-Ok c w = rw (c.in-Ok.is, c.same_report-told.ensures, c.same_credential.ensures)

pub returns-in-Err : goal.returns-in-Err
unfolding credential_agrees
returns-in-Err c w =
    rw (c.in-Err.is, ← c.same_report-agrees.ensures, ← and-kept c.same_report-agrees.result _ (same_refl (credential_bytes w)))
