-- The look-up of a lent ledger (docs/RULES.md, "Look-up", "Reading rules").
use Rattle.std.specs.Prelude.{ℕ, Bool, cond, ◌&&◌, Option, None, Some, Result, Ok, Err}
use Rattle.std.proofs.Math.Option.{none, some}
use Rattle.cesr.specs.declared.Said.{Said}
use Rattle.registry_state_credential.specs.declared.CredentialState.{CredentialState}
use Rattle.ledger_step.specs.Pairs.{Pair}
use Rattle.ledger_step.specs.Ledgers.{LookedUp, standing_of, well_pair}
use Rattle.ledger_step.specs.declared.Malformed.{Malformed}
use Rattle.ledger_standing.specs.declared.Standing.{Standing}
use Rattle.ledger_standing.specs.declared.Standing.TheVariants.{Issued, Revoked, Unknown}

-- a key, from its two parts
abbrev pub key_pair : Said → Said → Pair
key_pair registry credential = record { registry = registry; credential = credential }

abbrev pub standing_number : Standing → ℕ
standing_number Issued = 1
standing_number Revoked = 2
standing_number Unknown = 3

-- what the code's look-up answers stands for; after a refusal there is no standing
abbrev pub view_looked_up : Result Standing Malformed → LookedUp
view_looked_up (Ok s) = record { refusal = 0; standing = standing_number s }
view_looked_up (Err e) = record { refusal = 1; standing = 0 }

-- the standing by the row that a search for the key found, or that there is none
abbrev pub row_standing : Option CredentialState → ℕ
row_standing None = standing_of none
row_standing (Some w) = standing_of (some w)

-- what is answered where that is the row of a key
unfoldable pub looked_up_of : Bool → Option CredentialState → Pair → LookedUp
looked_up_of sound row k =
    cond (sound && well_pair k)
    (record { refusal = 0; standing = row_standing row })
    (record { refusal = 1; standing = 0 })
