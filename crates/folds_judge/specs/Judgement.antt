-- What a record says of a call, and whether the call gives it.
use Rattle.std.specs.Prelude.{ℕ, ◌+◌, List, true, false, cond, ◌&&◌, eqb, length, take, drop, replicate, Option, Some, None}
use Rattle.std.specs.Option.{option_map_or, option_zip}
use Rattle.laws.specs.Number.{number_at}
use Rattle.laws.specs.Words.{same_list}
use Rattle.codec_cursor.specs.Readers.{starting}
use Rattle.codec_cursor.specs.declared.Read.{Read}
use Rattle.registry_state.specs.States.{Registry, registry_bytes, read_registry}
use Rattle.registry_state_credential.specs.CredentialStates.{credential_bytes, read_credential}
use Rattle.registry_state_credential.specs.declared.CredentialState.{CredentialState}
use Rattle.registry_wire.specs.Attempts.{decode_of}
use Rattle.registry_error.specs.declared.RegistryRejection.TheVariants.{Malformed}
use Rattle.registry_answer.specs.Answers.{accepts}
use Rattle.registry_inception.specs.InceptionFolds as N
use Rattle.registry.specs.RegistryFolds as G
use Rattle.registry_issue.specs.IssueFolds as I
use Rattle.registry_credential_state.specs.CredentialFolds as W
use Rattle.registry_credential.specs.Status.{status_of}
use Rattle.host_report.specs.Reports.{rejection_report, answer_report}
use Rattle.host_status.specs.StatusReports.{status_report}
use Rattle.folds_judge.specs.declared.Finding.{Finding}
use Rattle.folds_judge.specs.declared.Case.{Case}
use Rattle.folds_judge.specs.declared.Call.{Call}
use Rattle.folds_judge.specs.declared.Call.TheVariants.{Inception, Rotation, Issue, Revocation, Status}

-- what was read, where it is all of the bytes
abbrev pub whole : {A : Type 0} → List ℕ → Read A → Option A
whole s r = cond (r.next.ok && eqb r.next.at (length s)) (Some r.value) None

-- a state in a record's bytes, where these are such a state and nothing else
unfoldable pub registry_in : List ℕ → Option Registry
registry_in s = whole s (read_registry s starting)

unfoldable pub credential_in : List ℕ → Option CredentialState
credential_in s = whole s (read_credential s starting)

-- the parts of a record: the report that is expected, the next state, the states that are handed in, the attempt or the input of `status`
pub record Parts : Type 0 where
  pub expected : List ℕ
  pub next : List ℕ
  pub registry : List ℕ
  pub credential : List ℕ
  pub input : List ℕ

abbrev pub parts : Case → Parts
parts c =
    record { expected = c.expected.now; next = c.next.now; registry = c.registry.now; credential = c.credential.now; input = c.input.now }

-- whether an outcome is the expected one: the answer, and behind it the next state or the one that was handed in
unfoldable pub registry_agrees : List ℕ → List ℕ → List ℕ → N.Outcome → Finding
registry_agrees expected next held o =
    record
    { agrees = same_list (answer_report o.answer) expected && same_list (registry_bytes o.state) (cond (accepts o.answer) next held); read = true }

unfoldable pub credential_agrees : List ℕ → List ℕ → List ℕ → I.Outcome → Finding
credential_agrees expected next held o =
    record
    { agrees = same_list (answer_report o.answer) expected && same_list (credential_bytes o.state) (cond (accepts o.answer) next held); read = true }

-- a state that is no state is answered with 1
unfoldable pub unread : List ℕ → Finding
unread expected = record { agrees = same_list (rejection_report Malformed) expected; read = false }

-- where no state is handed in, the one behind a refusal is blank
unfoldable pub judge_incept : Parts → Finding
judge_incept p = registry_agrees p.expected p.next (replicate 121 0) (N.incept_of p.input)

unfoldable pub judge_rotate : Parts → Finding
judge_rotate p =
    option_map_or (λ g. registry_agrees p.expected p.next p.registry (G.ingest_decoded g (decode_of p.input))) (registry_in p.registry) (unread p.expected)

unfoldable pub judge_issue : Parts → Finding
judge_issue p =
    option_map_or (λ g. credential_agrees p.expected p.next (replicate 115 0) (I.incept_decoded g (decode_of p.input))) (registry_in p.registry) (unread p.expected)

unfoldable pub judge_revoke : Parts → Finding
judge_revoke p =
    option_map_or (λ z. credential_agrees p.expected p.next p.credential (W.ingest_decoded z.0 z.1 (decode_of p.input))) (option_zip (registry_in p.registry) (credential_in p.credential)) (unread p.expected)

unfoldable pub judge_status : Parts → Finding
judge_status p = record { agrees = same_list (status_report (status_of p.input)) p.expected; read = true }

-- the calls, by their bytes
unfoldable pub call_of : ℕ → Option Call
call_of n =
    cond (eqb n 1) (Some Inception)
    (cond (eqb n 2) (Some Rotation)
    (cond (eqb n 3) (Some Issue) (cond (eqb n 4) (Some Revocation) (cond (eqb n 5) (Some Status) None))))

abbrev pub judge_call : Call → Parts → Finding
judge_call Inception p = judge_incept p
judge_call Rotation p = judge_rotate p
judge_call Issue p = judge_issue p
judge_call Revocation p = judge_revoke p
judge_call Status p = judge_status p

-- so many bytes from a place on
unfoldable pub part : List ℕ → ℕ → ℕ → List ℕ
part s from n = take n (drop from s)

-- how many bytes a record's body has
unfoldable pub size_of : List ℕ → ℕ
size_of first = number_at first 38 2 + number_at first 40 2 + number_at first 42 2 + number_at first 44 2

-- a record: its first 46 bytes, and its body of four parts with their lengths in the last 8 of these
unfoldable pub parts_of : List ℕ → List ℕ → Parts
parts_of first body =
    let a = number_at first 38 2 in
    let b = number_at first 40 2 in
    let c = number_at first 42 2 in
    let d = number_at first 44 2 in
    record
    { expected = part first 2 36; next = part body 0 a; registry = part body a b; credential = part body (a + b) c; input = part body (a + b + c) d }

-- a byte that is no call's agrees with nothing
unfoldable pub judge_of : List ℕ → List ℕ → Finding
judge_of first body =
    option_map_or (λ call. judge_call call (parts_of first body)) (call_of (number_at first 0 1)) (record { agrees = false; read = false })
