-- The reports of thresholds (docs/RULES.md, "Host's calls").
use Rattle.std.specs.Prelude.{ℕ, List, [], ◌∷◌, Result, Ok, Err}
use Rattle.events_toad.specs.declared.Toad.{Toad}
use Rattle.events_toad.specs.declared.ToadError.{ToadError}
use Rattle.registry_error.specs.declared.RegistryRejection.TheVariants.{BackerThreshold}
use Rattle.registry_error.specs.Errors.{Answer}
use Rattle.std.specs.Prelude.{Ok, Err}
use Rattle.host_report.specs.Reports.{report_with}

-- a threshold, or why there is none, as an answer; and its toad, 0 where there is none
abbrev pub threshold_answer : Result Toad ToadError → Answer
threshold_answer (Ok t) = Ok tt
threshold_answer (Err e) = Err BackerThreshold

abbrev pub toad_in : Result Toad ToadError → ℕ
toad_in (Ok t) = t.0
toad_in (Err e) = 0

-- `exact` gives no values, `ample` the toad
abbrev pub exact_report : Result Toad ToadError → List ℕ
exact_report r = report_with (threshold_answer r) []

abbrev pub ample_report : Result Toad ToadError → List ℕ
ample_report r = report_with (threshold_answer r) (toad_in r ∷ [])
