-- The reports of `status` (docs/RULES.md, "Host's calls").
use Rattle.std.specs.Prelude.{ℕ, List, [], Ok, Err}
use Rattle.registry_error.specs.declared.RegistryRejection.TheVariants.{Malformed}
use Rattle.registry_credential_error.specs.declared.CredentialError.{CredentialError}
use Rattle.registry_disposition.specs.Dispositions.{letter_of, awaited_of}
use Rattle.registry_credential_error.specs.CredentialErrors.{error_number, error_disposition}
use Rattle.registry_credential.specs.declared.StatusError.TheVariants as S
use Rattle.registry_credential.specs.Status.{StatusOutcome}
use Rattle.host_report.specs.Reports.{report_bytes, accepted_report, rejection_report}

-- `status` gives no values, and its refusals have no details
abbrev pub error_report : CredentialError → List ℕ
error_report e = report_bytes (error_number e) (letter_of (error_disposition e)) (awaited_of (error_disposition e)) []

abbrev pub status_report : StatusOutcome → List ℕ
status_report (Ok u) = accepted_report []
status_report (Err S.Malformed) = rejection_report Malformed
status_report (Err (S.Credential e)) = error_report e
