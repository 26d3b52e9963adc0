-- The reports of the host's calls, in bytes (docs/RULES.md, "Host's calls").
use Rattle.std.specs.Prelude.{ℕ, List, [], ◌∷◌, ◌++◌, cond, eqb, length, get_or}
use Rattle.laws.specs.Number.{digits}
use Rattle.registry_error.specs.declared.RegistryRejection.{RegistryRejection}
use Rattle.registry_error.specs.Errors.{Answer}
use Rattle.std.specs.Prelude.{Ok, Err}
use Rattle.registry_disposition.specs.Dispositions.{letter_of, awaited_of}
use Rattle.registry_error.specs.Errors.{number_of, disposition_of, details_of}

-- a byte each for the number, the letter, the evidence kind awaited and how many values there are, then 16 bytes for each of two values: 0 for one
-- that is not there
unfoldable pub report_bytes : ℕ → ℕ → ℕ → List ℕ → List ℕ
report_bytes number letter awaited values =
    number ∷ letter ∷ awaited ∷ length values ∷ digits 16 (get_or values 0 0) ++ digits 16 (get_or values 1 0)

-- an acceptance, with the letter A, and the values that the call gives
abbrev pub accepted_report : List ℕ → List ℕ
accepted_report values = report_bytes 0 65 0 values

-- a refusal of an attempt, with its details
abbrev pub rejection_report : RegistryRejection → List ℕ
rejection_report r = report_bytes (number_of r) (letter_of (disposition_of r)) (awaited_of (disposition_of r)) (details_of r)

-- the answer to an attempt: after acceptance the values are the call's own
abbrev pub report_with : Answer → List ℕ → List ℕ
report_with (Ok u) values = accepted_report values
report_with (Err r) values = rejection_report r

-- the ledger's call gives no values
abbrev pub answer_report : Answer → List ℕ
answer_report a = report_with a []

-- a fold over bytes gives how many bytes the next state has
abbrev pub sized_report : Answer → ℕ → List ℕ
sized_report a size = report_with a (size ∷ [])

-- the answer of a call whose refusals are all terminal, with the letter T, and have no details; the values are given after acceptance only
unfoldable pub plain_report : ℕ → List ℕ → List ℕ
plain_report number values = cond (eqb number 0) (accepted_report values) (report_bytes number 84 0 [])
