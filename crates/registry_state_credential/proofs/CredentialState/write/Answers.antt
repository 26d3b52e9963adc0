use Rattle.registry_state_credential.proofs.CodesCredential.{credential-head}
use Rattle.registry_state_credential.proofs.CredentialState.write.Goals as goal

pub returns : goal.returns
returns c =
    rw (credential-head c.args.self) c.write_credential.ensures
