-- The ledger's checks around each fold, in their order, and the change behind them (docs/RULES.md, "Orders", "Next states").
use Rattle.std.specs.Prelude.{ℕ, ◌+◌, ◌≡◌, cond, List, Option, None, Some, Result, Ok, Err}
use Rattle.cesr.specs.declared.Said.{Said}
use Rattle.registry_state.specs.declared.RegistryState.{RegistryState}
use Rattle.registry_state_credential.specs.declared.CredentialState.{CredentialState}
use Rattle.registry_error.specs.declared.RegistryRejection.{RegistryRejection}
use Rattle.registry_error.specs.declared.RegistryRejection.TheVariants.{Malformed, MissingRegistry, DuplicateInception, AlreadyIssued, MissingCredentialState}
use Rattle.registry_inception.specs.InceptionFolds as N
use Rattle.registry.specs.RegistryFolds as R
use Rattle.registry_issue.specs.IssueFolds as I
use Rattle.registry_credential_state.specs.CredentialFolds as C
use Rattle.ledger_reading.specs.Pairs.{Pair}
use Rattle.ledger_reading.specs.Ledgers.{held_of}
use Rattle.ledger_reading.specs.Steps.{Effect, after_fold, with_room, held_now}
use Rattle.ledger_reading.specs.Steps.Effect.{refuse, new_registry, set_registry, new_row, set_row}
use Rattle.ledger_reading.specs.Names.{decodes}
use Rattle.ledger_answers.specs.declared.Found.{Found}
use Rattle.ledger_answers.specs.declared.Change.{Change}
use Rattle.ledger_answers.specs.declared.Change.TheVariants.{Registry, Row}

-- 1 of bytes that are no attempt, before an effect
abbrev pub if_read : List ℕ → Effect → Effect
if_read s e = cond (decodes s) e (refuse Malformed)

-- vcp: 3, the fold, 29; the registry that is held under the id, and how many registries are held
abbrev pub inception_named : List ℕ → Option RegistryState → ℕ → Effect
inception_named s (Some g) m = refuse DuplicateInception
inception_named s None m = after_fold (N.incept_of s).answer (with_room m 16 (new_registry (N.incept_of s).state))

-- vrt: 2, the fold
abbrev pub rotation_named : List ℕ → Said → Option RegistryState → Effect
rotation_named s id None = refuse MissingRegistry
rotation_named s id (Some g) = after_fold (R.ingest_of g s).answer (set_registry id (R.ingest_of g s).state)

-- iss, bis: 2, 4, the fold, 29; the row that is held under the key, and how many rows are held
abbrev pub issue_named : List ℕ → Option RegistryState → Option CredentialState → ℕ → Effect
issue_named s None o n = refuse MissingRegistry
issue_named s (Some g) (Some w) n = refuse AlreadyIssued
issue_named s (Some g) None n = after_fold (I.incept_of g s).answer (with_room n 256 (new_row (I.incept_of g s).state))

-- rev, brv: 2, 5, the fold
abbrev pub revocation_named : List ℕ → Pair → Option RegistryState → Option CredentialState → Effect
revocation_named s k None o = refuse MissingRegistry
revocation_named s k (Some g) None = refuse MissingCredentialState
revocation_named s k (Some g) (Some w) = after_fold (C.ingest_of g w s).answer (set_row k (C.ingest_of g w s).state)

-- What is answered where an attempt comes to an effect, and the searches for the registry and the row that it names found this: the refusal, or the
-- state with its place and the count behind it. A new state stands behind the last and counts.
abbrev pub Makes : Effect → Found RegistryState → Found CredentialState → Result Change RegistryRejection → Type 0
Makes (refuse r) f o x = x ≡ Err r
Makes (new_registry h) f o x = (g : RegistryState) × (held_of g ≡ held_now h) × (x ≡ Ok (Registry f.count g (f.count + 1)))
Makes (set_registry id h) f o x = (g : RegistryState) × (held_of g ≡ held_now h) × (x ≡ Ok (Registry f.at g f.count))
Makes (new_row w) f o x = x ≡ Ok (Row o.count w (o.count + 1))
Makes (set_row k w) f o x = x ≡ Ok (Row o.at w o.count)
