-- The last checks of a revocation (docs/RULES.md, "Orders").
use Rattle.std.specs.Prelude.{[], ◌∷◌}
use Rattle.cesr.specs.Primitives.{eq_said}
use Rattle.cesr.specs.declared.Said.{Said}
use Rattle.events_tel.specs.TelEvents.{sn_one}
use Rattle.registry_state_credential.specs.declared.CredentialState.{CredentialState}
use Rattle.registry_error.specs.declared.RegistryRejection.TheVariants.{PriorDigestMismatch, InconsistentCredential}
use Rattle.registry_error.specs.Errors.{Answer}
use Rattle.registry_answer.specs.Answers.{accept_if, first_of}
use Rattle.registry_verification.specs.Sequence.{next_sn}

-- what is left of a rev or brv: 28, 15 to 17
unfoldable pub transition : CredentialState → Said → Said → Answer
transition w credential prior =
    first_of
    (accept_if (eq_said credential w.credential) InconsistentCredential
    ∷ next_sn w.sn sn_one
    ∷ accept_if (eq_said prior w.head) PriorDigestMismatch
    ∷ [])
