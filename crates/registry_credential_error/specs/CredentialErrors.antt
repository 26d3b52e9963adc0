-- The refusals of a credential's status: their numbers and dispositions (docs/RULES.md, "Refusals").
use Rattle.std.specs.Prelude.{ℕ}
use Rattle.registry_disposition.specs.declared.EvidenceKind.TheVariants as E
use Rattle.registry_disposition.specs.declared.Disposition.{Disposition}
use Rattle.registry_disposition.specs.declared.Disposition.TheVariants.{Terminal, Awaiting}
use Rattle.registry_credential_error.specs.declared.CredentialError.{CredentialError}
use Rattle.registry_credential_error.specs.declared.CredentialError.TheVariants as C

-- the refusals of a credential's status, in the order in which they are checked
abbrev pub error_number : CredentialError → ℕ
error_number C.MissingRegistry = 31
error_number C.MissingCredentialState = 32
error_number C.MissingIssuerState = 33
error_number C.MissingRegistryReference = 34
error_number C.RegistryMismatch = 35
error_number C.IssuerMismatch = 36
error_number C.IssuerStateMismatch = 37
error_number C.CredentialStateMismatch = 38
error_number C.Revoked = 39

abbrev pub error_disposition : CredentialError → Disposition
error_disposition C.MissingRegistry = Awaiting E.RegistryState
error_disposition C.MissingCredentialState = Awaiting E.CredentialTelState
error_disposition C.MissingIssuerState = Awaiting E.IssuerState
error_disposition C.MissingRegistryReference = Terminal
error_disposition C.RegistryMismatch = Terminal
error_disposition C.IssuerMismatch = Terminal
error_disposition C.IssuerStateMismatch = Terminal
error_disposition C.CredentialStateMismatch = Terminal
error_disposition C.Revoked = Terminal
