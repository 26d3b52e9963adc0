-- The status of a credential (docs/RULES.md, "Status").
use Rattle.std.specs.Prelude.{ℕ, List, [], ◌∷◌, Bool, cond, ◌&&◌, eqb, Option, Some, None, Result, Ok, Err}
use Rattle.cesr_sn.specs.Numbers.{value}
use Rattle.cesr.specs.Primitives.{eq_matter, eq_said}
use Rattle.cesr.specs.declared.Matter.{Matter}
use Rattle.cesr.specs.declared.Said.{Said}
use Rattle.registry_state.specs.States.{Registry}
use Rattle.registry_status.specs.Statuses.{Status, decode_status}
use Rattle.registry_status.specs.declared.Reference.{Reference}
use Rattle.registry_status.specs.declared.Reference.TheVariants.{Unnamed, Named, Block}
use Rattle.registry_state_credential.specs.declared.CredentialState.{CredentialState}
use Rattle.registry_credential_error.specs.CredentialErrors.{error_number}
use Rattle.registry_credential_error.specs.declared.CredentialError.{CredentialError}
use Rattle.registry_credential_error.specs.declared.CredentialError.TheVariants.{MissingRegistry, MissingCredentialState, MissingIssuerState, MissingRegistryReference, RegistryMismatch, IssuerMismatch, IssuerStateMismatch, CredentialStateMismatch, Revoked}
use Rattle.registry_credential.specs.declared.StatusError.{StatusError}
use Rattle.registry_credential.specs.declared.StatusError.TheVariants.{Malformed, Credential}

-- an outcome: the credential has its status, or it is turned down for a reason
abbrev pub StatusOutcome : Type 0
StatusOutcome = Result Unit StatusError

-- the refusal, unless the test holds
abbrev pub required : Bool → CredentialError → Result Unit CredentialError
required test refusal = cond test (Ok tt) (Err refusal)

-- a check: the refusal, unless the test holds; then the rest decides
abbrev pub check : Bool → CredentialError → StatusOutcome → StatusOutcome
check test refusal rest = cond test rest (Err (Credential refusal))

-- 35 to 39 of a credential, its registry state g, its credential state w, its issuer's prefix i and the registry d that it names
unfoldable pub binding : Status → Registry → CredentialState → Matter → Said → StatusOutcome
binding x g w i d =
    check (eq_said d g.id) RegistryMismatch
    (check (eq_matter x.issuer g.issuer) IssuerMismatch
    (check (eq_matter i x.issuer) IssuerStateMismatch
    (check (eq_said w.registry g.id && eq_said w.credential x.said) CredentialStateMismatch
    (check (eqb (value w.sn) 0) Revoked
    (Ok tt)))))

-- 31 to 34: the two states, the issuer's prefix and the name of a registry are there; then 35 to 39
abbrev pub judged_with : Status → List Registry → List CredentialState → List Matter → Reference → StatusOutcome
judged_with x [] states prefixes r = Err (Credential MissingRegistry)
judged_with x (g ∷ _) [] prefixes r = Err (Credential MissingCredentialState)
judged_with x (g ∷ _) (w ∷ _) [] r = Err (Credential MissingIssuerState)
judged_with x (g ∷ _) (w ∷ _) (i ∷ _) Unnamed = Err (Credential MissingRegistryReference)
judged_with x (g ∷ _) (w ∷ _) (i ∷ _) Block = Err (Credential MissingRegistryReference)
judged_with x (g ∷ _) (w ∷ _) (i ∷ _) (Named d) = binding x g w i d

abbrev pub judged : Status → StatusOutcome
judged x = judged_with x x.registries x.credentials x.issuers x.reference

-- 1 comes before all of them
abbrev pub answered : Option Status → StatusOutcome
answered None = Err Malformed
answered (Some x) = judged x

unfoldable pub status_of : List ℕ → StatusOutcome
status_of s = answered (decode_status s)

-- the number of a refusal
abbrev pub number_of : StatusError → ℕ
number_of Malformed = 1
number_of (Credential e) = error_number e

-- the number of an answer
abbrev pub status_number : StatusOutcome → ℕ
status_number (Ok u) = 0
status_number (Err e) = number_of e
