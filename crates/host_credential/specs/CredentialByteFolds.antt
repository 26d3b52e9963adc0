-- The folds of a credential over bytes (docs/RULES.md, "Host's calls").
use Rattle.std.specs.Prelude.{ℕ, ◌≡◌, List, Result, Ok, Err}
use Rattle.std.proofs.Math.Option.{Option, none, some}
use Rattle.codec_cursor.specs.Readers.{starting}
use Rattle.registry_state.specs.States.{Registry}
use Rattle.registry_state_credential.specs.CredentialStates.{read_credential}
use Rattle.registry_state_credential.specs.declared.CredentialState.{CredentialState}
use Rattle.registry_wire.specs.Attempts.{decode_of}
use Rattle.registry_issue.specs.IssueFolds as I
use Rattle.registry_credential_state.specs.CredentialFolds as W
use Rattle.registry_head.specs.declared.HeadPlaces.{HeadPlaces}
use Rattle.registry_error.specs.declared.RegistryRejection.{RegistryRejection}
use Rattle.host_next.specs.ByteFolds.{whole_of, registry_in, Folded, credential_folded, credential_copied, no_state}

-- the credential state that bytes are
unfoldable pub credential_in : List ℕ → Option CredentialState
credential_in s = whole_of s (read_credential s starting)

-- iss and bis
abbrev pub incept_credential : Option Registry → List ℕ → Folded
incept_credential none attempt = no_state
incept_credential (some g) attempt = credential_folded (I.incept_decoded g (decode_of attempt))

-- the credential state that bytes are
unfoldable pub credential_incept : List ℕ → List ℕ → Folded
credential_incept registry attempt = incept_credential (registry_in registry) attempt

-- rev and brv
abbrev pub ingest_credential : Option Registry → Option CredentialState → List ℕ → Folded
ingest_credential none w attempt = no_state
ingest_credential (some g) none attempt = no_state
ingest_credential (some g) (some w) attempt = credential_folded (W.ingest_decoded g w (decode_of attempt))

-- the credential state that bytes are
unfoldable pub credential_ingest : List ℕ → List ℕ → List ℕ → Folded
credential_ingest registry credential attempt = ingest_credential (registry_in registry) (credential_in credential) attempt

-- what a fold over bytes hands on: the places of the state that it leaves, or its refusal
abbrev pub Leaves : List ℕ → List ℕ → Result HeadPlaces RegistryRejection → Folded → Type 0
Leaves held s (Ok h) f = credential_copied held s h ≡ f
Leaves held s (Err r) f = Err r ≡ f.answer
