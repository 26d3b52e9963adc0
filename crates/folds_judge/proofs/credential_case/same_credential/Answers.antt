use Rattle.events_tel.proofs.ConfigLaws.{pointwise_same}
use Rattle.registry_state_credential.specs.CredentialStates.{credential_bytes}
use Rattle.registry_state_credential.proofs.CodesCredential.{length-credential}
use Rattle.folds_judge.proofs.Laws.{filled}
use Rattle.folds_judge.proofs.credential_case.same_credential.Goals as goal

pub returns : goal.returns
returns c =
    let w = c.args.w in
    rw (c.eq.ensures, c.write.ensures.1, filled _ (credential_bytes w) (length-credential w), pointwise_same)
