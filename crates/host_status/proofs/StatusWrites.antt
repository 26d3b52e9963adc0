-- The report of `status` has 36 bytes.
use mathlib.Core.Path.{◌≡◌}
use lib.ListN.{length}
use Rattle.std.proofs.Common.{Ok, Err}
use Rattle.registry_credential.specs.declared.StatusError.TheVariants as S
use Rattle.registry_credential.specs.Status.{StatusOutcome}
use Rattle.host_report.proofs.ReportWrites.{length-report}
use Rattle.host_status.specs.StatusReports.{status_report}

pub length-status : (o : StatusOutcome) → length (status_report o) ≡ 36
length-status (Ok u) = length-report _ _ _ _
length-status (Err S.Malformed) = length-report _ _ _ _
length-status (Err (S.Credential e)) = length-report _ _ _ _
