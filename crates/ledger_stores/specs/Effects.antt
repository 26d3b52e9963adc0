-- What an attempt comes to, from what it names and what the ledger holds of that (docs/RULES.md, "Ledger", "Orders").
use Rattle.std.specs.Prelude.{ℕ, List, take, slice_get}
use Rattle.cesr.specs.declared.Said.{Said}
use Rattle.registry_state.specs.declared.RegistryState.{RegistryState}
use Rattle.registry_state_credential.specs.declared.CredentialState.{CredentialState}
use Rattle.ledger_rows.specs.Pairs.{Pair}
use Rattle.ledger_rows.specs.Steps.{Effect}
use Rattle.ledger_rows.specs.Rows.{find_at}
use Rattle.ledger_registries.specs.Registries.{find_registry}
use Rattle.ledger_asked.specs.declared.Asks.{Asks}
use Rattle.ledger_asked.specs.declared.Asks.TheVariants.{Inception, Rotation, Issue, Revocation}
use Rattle.ledger_asked.specs.declared.Named.{Named}
use Rattle.ledger_answers.specs.declared.Found.{Found}
use Rattle.ledger_answers.specs.Checks.{inception_named, rotation_named, issue_named, revocation_named}

-- the pair that is named
abbrev pub pair_named : Named → Pair
pair_named q = record { registry = q.registry; credential = q.credential }

-- by the fold that is asked for: the effect of what is named, where the searches found this registry and this row
abbrev pub asked_effect : Asks → List ℕ → Named → Found RegistryState → Found CredentialState → Effect
asked_effect Inception s q f o = inception_named s f.state f.count
asked_effect Rotation s q f o = rotation_named s q.registry f.state
asked_effect Issue s q f o = issue_named s f.state o.state o.count
asked_effect Revocation s q f o = revocation_named s (pair_named q) f.state o.state

abbrev pub named_effect : List ℕ → Named → Found RegistryState → Found CredentialState → Effect
named_effect s q f o = asked_effect q.asks s q f o

-- what a search of the registries, and one of the rows, finds: only those before the count are looked at
abbrev pub registry_found : List RegistryState → ℕ → Said → Found RegistryState
registry_found gs m id = record { at = find_registry gs m id; count = m; state = slice_get (take m gs) (find_registry gs m id) }

abbrev pub row_found : List CredentialState → ℕ → Said → Said → Found CredentialState
row_found ws n registry credential =
    record { at = find_at ws n registry credential; count = n; state = slice_get (take n ws) (find_at ws n registry credential) }
