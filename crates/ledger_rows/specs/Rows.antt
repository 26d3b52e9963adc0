-- The credential rows of a ledger, as they are lent (docs/RULES.md, "Ledger", "Reading rules"). Their keys and rules are those of the ledger.
use Rattle.std.specs.Prelude.{ℕ, List, Bool, get_or, take}
use Rattle.cesr.specs.declared.Said.{Said}
use Rattle.registry_state_credential.specs.CredentialStates.{no_credential}
use Rattle.registry_state_credential.specs.declared.CredentialState.{CredentialState}
use Rattle.ledger_step.specs.Pairs.{key_of}
use Rattle.ledger_step.specs.Tables.{place}
use Rattle.ledger_step.specs.Ledgers.{eq_pair}

-- the row at a place; past the end there is no credential
abbrev pub row_at : List CredentialState → ℕ → CredentialState
row_at l i = get_or l i no_credential

-- whether the row has the key
abbrev pub has_key : CredentialState → Said → Said → Bool
has_key w registry credential = eq_pair (key_of w) (record { registry = registry; credential = credential })

-- the least place among the first count rows whose row has the key; where there is none, how many these rows are: the lesser of the count and the length
unfoldable pub find_at : List CredentialState → ℕ → Said → Said → ℕ
find_at l count registry credential = place key_of eq_pair no_credential (record { registry = registry; credential = credential }) (take count l)
