-- The registries of the rows of a lent ledger (docs/RULES.md, "Reading rules").
use Rattle.std.specs.Prelude.{ℕ, Bool, List, map, take}
use Rattle.codec.specs.Layout.{all}
use Rattle.registry_state.specs.declared.RegistryState.{RegistryState}
use Rattle.registry_state_credential.specs.declared.CredentialState.{CredentialState}
use Rattle.ledger_step.specs.Ledgers.{held_of, id_of, has_registry}

-- the registry of every row is held
unfoldable pub rows_held : List RegistryState → ℕ → List CredentialState → ℕ → Bool
rows_held gs m ws n = all (has_registry (map id_of (map held_of (take m gs)))) (take n ws)
