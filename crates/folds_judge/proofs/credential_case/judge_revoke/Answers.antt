use mathlib.Core.Path.{◌∙◌}
use Rattle.registry_credential_state.specs.CredentialFolds.{ingest_of}
use Rattle.folds_judge.specs.Judgement.{judge_revoke}
use Rattle.folds_judge.proofs.credential_case.judge_revoke.Goals as goal

pub returns-in_default : goal.returns-in_default
unfolding judge_revoke
returns-in_default c = c.unread.ensures ∙ rw (← c.in_default.ensures.view)

pub returns-in_default-read_credential : goal.returns-in_default-read_credential
unfolding judge_revoke
returns-in_default-read_credential c =
    c.unread-in_default-read_credential.ensures ∙ rw (← c.in-Some.ensures.view, ← c.in_default-read_credential.ensures.view)

pub returns : goal.returns
unfolding judge_revoke ingest_of
returns c =
    let w = c.in-Some-read_credential in
    c.credential_agrees.ensures w.w
    ∙ rw (c.ingest.ensures, ← c.in-Some.ensures.view, ← w.ensures.view, c.in-Some.ensures.well, w.ensures.well, w.ensures.bytes)
