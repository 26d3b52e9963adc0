-- What a call leaves of the slices that are lent to it (docs/RULES.md, "Ledger", "Next states").
use Rattle.std.specs.Prelude.{ℕ, ◌+◌, ◌≡◌, List, set, Result, Ok, Err}
use Rattle.registry_error.specs.declared.RegistryRejection.{RegistryRejection}
use Rattle.registry_error.specs.Errors.{Answer}
use Rattle.registry_state.specs.declared.RegistryState.{RegistryState}
use Rattle.registry_state_credential.specs.declared.CredentialState.{CredentialState}
use Rattle.ledger_rows.specs.Ledgers.{Ledger, held_of, lent_ledger}
use Rattle.ledger_rows.specs.Steps.{Effect, held_now}
use Rattle.ledger_rows.specs.Steps.Effect.{refuse, new_registry, set_registry, new_row, set_row}
use Rattle.ledger_rows.specs.Rows.{find_at}
use Rattle.ledger_registries.specs.Registries.{find_registry}
use Rattle.ledger_answers.specs.declared.Change.{Change}
use Rattle.ledger_answers.specs.declared.Change.TheVariants.{Registry, Row}

-- the two slices, whole, each with its count
pub record Lent : Type 0 where
  pub registries : List RegistryState
  pub registry_count : ℕ
  pub rows : List CredentialState
  pub row_count : ℕ

abbrev pub lent : List RegistryState → ℕ → List CredentialState → ℕ → Lent
lent gs m ws n = record { registries = gs; registry_count = m; rows = ws; row_count = n }

-- the ledger that they are
abbrev pub view_lent : Lent → Ledger
view_lent b = lent_ledger b.registries b.registry_count b.rows b.row_count

-- What stands in the slices before and after the effect. A refusal leaves every state and both counts; any other effect stores one state, a new one
-- at the count, and leaves every other state, also those past the counts.
abbrev pub Stores : Effect → Lent → Lent → Type 0
Stores (refuse r) a b = b ≡ a
Stores (new_registry g) a b =
    (x : RegistryState) × (held_of x ≡ held_now g) × (b ≡ lent (set a.registries a.registry_count x) (a.registry_count + 1) a.rows a.row_count)
Stores (set_registry id g) a b =
    (x : RegistryState) × (held_of x ≡ held_now g) × (b ≡ lent (set a.registries (find_registry a.registries a.registry_count id) x) a.registry_count a.rows a.row_count)
Stores (new_row w) a b = b ≡ lent a.registries a.registry_count (set a.rows a.row_count w) (a.row_count + 1)
Stores (set_row k w) a b =
    b ≡ lent a.registries a.registry_count (set a.rows (find_at a.rows a.row_count k.registry k.credential) w) a.row_count

-- the answer, where this change is made or it is refused
abbrev pub answer_to : Result Change RegistryRejection → Answer
answer_to (Ok c) = Ok tt
answer_to (Err r) = Err r

-- and what stands in the slices then
abbrev pub lent_after : Result Change RegistryRejection → Lent → Lent
lent_after (Err r) a = a
lent_after (Ok (Registry at g count)) a = lent (set a.registries at g) count a.rows a.row_count
lent_after (Ok (Row at w count)) a = lent a.registries a.registry_count (set a.rows at w) count
