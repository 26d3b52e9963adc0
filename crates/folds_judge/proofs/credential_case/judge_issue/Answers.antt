use mathlib.Core.Path.{◌∙◌}
use Rattle.registry_state_credential.specs.CredentialStates.{no_credential}
use Rattle.registry_issue.specs.IssueFolds.{incept_of}
use Rattle.folds_judge.specs.Judgement.{judge_issue}
use Rattle.folds_judge.proofs.Laws.{blank-credential}
use Rattle.folds_judge.proofs.credential_case.judge_issue.Goals as goal

pub returns-in-Some : goal.returns-in-Some
unfolding judge_issue incept_of
returns-in-Some c =
    c.credential_agrees.ensures no_credential
    ∙ rw (c.incept.ensures, ← c.in-Some.ensures.view, c.in-Some.ensures.well, blank-credential)

pub returns-in-None : goal.returns-in-None
unfolding judge_issue
returns-in-None c = c.unread.ensures ∙ rw (← c.in-None.ensures.view)
