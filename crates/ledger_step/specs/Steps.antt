-- A call of the ledger: what an attempt asks, what it comes to, and what it leaves (docs/RULES.md, "Ledger", "Orders", "Next states").
use Rattle.std.specs.Prelude.{ℕ, ◌+◌, true, cond, List, [], ◌∷◌, ◌++◌, ltb}
use Rattle.std.proofs.Math.Option.{Option, none, some}
use Rattle.cesr.specs.Primitives.{eq_said}
use Rattle.cesr.specs.declared.Said.{Said}
use Rattle.events_tel.specs.TelEvents.{Event}
use Rattle.events_tel.specs.TelEvents.Event.{vcp, vrt, iss, rev, bis, brv}
use Rattle.registry_state.specs.States.{Registry}
use Rattle.registry_state_credential.specs.declared.CredentialState.{CredentialState}
use Rattle.registry_laws.specs.Attempts.{Message, Decoded, decode_of}
use Rattle.registry_laws.specs.Attempts.Decoded.{malformed, decoded}
use Rattle.registry_error.specs.Errors.{Answer}
use Rattle.std.specs.Prelude.{Ok, Err}
use Rattle.registry_error.specs.declared.RegistryRejection.{RegistryRejection}
use Rattle.registry_error.specs.declared.RegistryRejection.TheVariants.{Malformed, MissingRegistry, DuplicateInception, AlreadyIssued, MissingCredentialState, InconsistentRegistry, NoRoom}
use Rattle.registry_laws.specs.InceptionFolds as N
use Rattle.registry_laws.specs.RegistryFolds as R
use Rattle.registry_laws.specs.IssueFolds as I
use Rattle.registry_laws.specs.CredentialFolds as C
use Rattle.registry_laws.specs.Pairs.{Pair, pair_in, key_of}
use Rattle.ledger_step.specs.Tables.{put}
use Rattle.ledger_step.specs.Ledgers.{Held, Ledger, id_of, eq_pair, registry_at, row_at, sound}

-- What an attempt asks of the ledger: a fold, with the registry or the pair that it names. Malformed bytes, and a brv that names no pair,
-- ask nothing, and get a refusal.
pub data Request : Type 0 where
  nothing : RegistryRejection → Request
  inception : Said → Message → Request
  rotation : Said → Message → Request
  issue : Pair → Message → Request
  revocation : Pair → Message → Request

-- 10: a brv that names no pair
abbrev pub revocation_of : List Pair → Message → Request
revocation_of [] m = nothing InconsistentRegistry
revocation_of (k ∷ l) m = revocation k m

abbrev pub event_request : Event → Message → Request
event_request (vcp said issuer toad configs backers) m = inception said m
event_request (vrt said registry prior sn toad cuts additions) m = rotation registry m
event_request (iss said credential registry) m = issue (record { registry = registry; credential = credential }) m
event_request (rev said credential registry prior) m = revocation (record { registry = registry; credential = credential }) m
event_request (bis said credential registry seal) m = issue (record { registry = registry; credential = credential }) m
event_request (brv said credential prior seal) m = revocation_of (pair_in seal credential) m

-- 1: malformed bytes
abbrev pub decoded_request : Decoded → Request
decoded_request malformed = nothing Malformed
decoded_request (decoded m) = event_request m.event m

unfoldable pub request_of : List ℕ → Request
request_of s = decoded_request (decode_of s)

-- what an attempt comes to: a refusal, or the one change that it makes
pub data Effect : Type 0 where
  refuse : RegistryRejection → Effect
  new_registry : Registry → Effect
  set_registry : Said → Registry → Effect
  new_row : CredentialState → Effect
  set_row : Pair → CredentialState → Effect

-- the fold's refusal, or the change
abbrev pub after_fold : Answer → Effect → Effect
after_fold (Ok u) e = e
after_fold (Err r) e = refuse r

-- 29: so many are held already
abbrev pub with_room : ℕ → ℕ → Effect → Effect
with_room held limit e = cond (ltb held limit) e (refuse NoRoom)

-- vcp: 3, the fold, 29; the number is how many registries are held
abbrev pub inception_effect : Message → ℕ → Option Held → Effect
inception_effect m n none = after_fold (N.incept_message m).answer (with_room n 16 (new_registry (N.incept_message m).state))
inception_effect m n (some g) = refuse DuplicateInception

-- vrt: 2, the fold
abbrev pub rotation_effect : Said → Message → Option Held → Effect
rotation_effect id m none = refuse MissingRegistry
rotation_effect id m (some g) = after_fold (R.ingest_message g.state m).answer (set_registry id (R.ingest_message g.state m).state)

-- iss, bis: 2, 4, the fold, 29; the number is how many rows are held
abbrev pub issue_effect : Message → ℕ → Option Held → Option CredentialState → Effect
issue_effect m n none o = refuse MissingRegistry
issue_effect m n (some g) none = after_fold (I.incept_message g.state m).answer (with_room n 256 (new_row (I.incept_message g.state m).state))
issue_effect m n (some g) (some w) = refuse AlreadyIssued

-- rev, brv: 2, 5, the fold
abbrev pub revocation_effect : Pair → Message → Option Held → Option CredentialState → Effect
revocation_effect k m none o = refuse MissingRegistry
revocation_effect k m (some g) none = refuse MissingCredentialState
revocation_effect k m (some g) (some w) = after_fold (C.ingest_message g.state w m).answer (set_row k (C.ingest_message g.state w m).state)

abbrev pub effect_of : Ledger → Request → Effect
effect_of l (nothing r) = refuse r
effect_of l (inception id m) = inception_effect m l.registry_count (registry_at l id)
effect_of l (rotation id m) = rotation_effect id m (registry_at l id)
effect_of l (issue k m) = issue_effect m l.row_count (registry_at l k.registry) (row_at l k)
effect_of l (revocation k m) = revocation_effect k m (registry_at l k.registry) (row_at l k)

-- 1 before everything: a ledger that breaks a reading rule
unfoldable pub effect : Ledger → Request → Effect
effect l q = cond (sound l) (effect_of l q) (refuse Malformed)

abbrev pub answer_of : Effect → Answer
answer_of (refuse r) = Err r
answer_of (new_registry g) = Ok tt
answer_of (set_registry id g) = Ok tt
answer_of (new_row w) = Ok tt
answer_of (set_row k w) = Ok tt

-- the state that a fold of a registry leaves, as it is held
abbrev pub held_now : Registry → Held
held_now g = record { well = true; state = g }

-- the ledger with the change made: a new state behind the last, or the next state in its place
abbrev pub changed : Ledger → Effect → Ledger
changed l (refuse r) = l
changed l (new_registry g) =
    record { registry_slots = l.registry_slots; registry_count = l.registry_count + 1; registries = l.registries ++ (held_now g ∷ []); row_slots = l.row_slots; row_count = l.row_count; rows = l.rows }
changed l (set_registry id g) =
    record { registry_slots = l.registry_slots; registry_count = l.registry_count; registries = put id_of eq_said id (held_now g) l.registries; row_slots = l.row_slots; row_count = l.row_count; rows = l.rows }
changed l (new_row w) =
    record { registry_slots = l.registry_slots; registry_count = l.registry_count; registries = l.registries; row_slots = l.row_slots; row_count = l.row_count + 1; rows = l.rows ++ (w ∷ []) }
changed l (set_row k w) =
    record { registry_slots = l.registry_slots; registry_count = l.registry_count; registries = l.registries; row_slots = l.row_slots; row_count = l.row_count; rows = put key_of eq_pair k w l.rows }

-- an answer, and the ledger behind it
pub record Step : Type 0 where
  pub answer : Answer
  pub ledger : Ledger

abbrev pub step_by : Ledger → Effect → Step
step_by l e = record { answer = answer_of e; ledger = changed l e }

unfoldable pub step_of : Ledger → List ℕ → Step
step_of l s = step_by l (effect l (request_of s))
