-- The ledger as it is handed in, its reading rules and its look-up (docs/RULES.md, "Ledger", "Reading rules", "Look-up").
use Rattle.std.specs.Prelude.{ℕ, Bool, true, cond, ◌&&◌, List, [], ◌∷◌, map, eqb, leb, length, take}
use Rattle.std.proofs.Math.Option.{Option, none, some}
use Rattle.cesr_sn.specs.Numbers.{value}
use Rattle.cesr.specs.Primitives.{eq_said, is_said}
use Rattle.cesr.specs.declared.Said.{Said}
use Rattle.codec.specs.Layout.{all}
use Rattle.registry_state.specs.States.{Registry, view_registry, well_registry}
use Rattle.registry_state_credential.specs.CredentialStates.{well_credential}
use Rattle.registry_state.specs.declared.RegistryState.{RegistryState}
use Rattle.registry_state_credential.specs.declared.CredentialState.{CredentialState}
use Rattle.registry_laws.specs.Pairs.{Pair, key_of}
use Rattle.registry_laws.specs.ReadingRules.{sound_registry}
use Rattle.ledger_step.specs.Tables.{has, distinct, find}

-- a registry that is held: whether it keeps to its layout and limits, and what it says
pub record Held : Type 0 where
  pub well : Bool
  pub state : Registry

abbrev pub held_of : RegistryState → Held
held_of g = record { well = well_registry g; state = view_registry g }

-- The counts are those that are handed in, also past their limits. The registries and rows are those before the counts, in the
-- order in which they arrived. The slots are the lengths of the slices in which the registries and the rows are lent.
pub record Ledger : Type 0 where
  pub registry_slots : ℕ
  pub registry_count : ℕ
  pub registries : List Held
  pub row_slots : ℕ
  pub row_count : ℕ
  pub rows : List CredentialState

-- the ledger that is handed in as two lent slices, each with its count
unfoldable pub lent_ledger : List RegistryState → ℕ → List CredentialState → ℕ → Ledger
lent_ledger gs m ws n =
    record { registry_slots = length gs; registry_count = m; registries = map held_of (take m gs); row_slots = length ws; row_count = n; rows = take n ws }

abbrev pub id_of : Held → Said
id_of g = g.state.id

abbrev pub eq_pair : Pair → Pair → Bool
eq_pair a b = eq_said a.registry b.registry && eq_said a.credential b.credential

abbrev pub ids_of : Ledger → List Said
ids_of l = map id_of l.registries

-- the registry with that id, and the row with that key
abbrev pub registry_at : Ledger → Said → Option Held
registry_at l id = find id_of eq_said id l.registries

abbrev pub row_at : Ledger → Pair → Option CredentialState
row_at l k = find key_of eq_pair k l.rows

-- every test holds
unfoldable pub holds : List Bool → Bool
holds [] = true
holds (t ∷ l) = t && holds l

-- of one state: the layout and limits of a registry, and its own reading rules; the registry of a credential is held, and its sn is 0 or 1
abbrev pub keeps_layout : Held → Bool
keeps_layout g = g.well

abbrev pub keeps_rules : Held → Bool
keeps_rules g = sound_registry g.state

abbrev pub has_registry : List Said → CredentialState → Bool
has_registry ids w = has eq_said w.registry ids

abbrev pub zero_or_one : CredentialState → Bool
zero_or_one w = leb (value w.sn) 1

-- the reading rules: each is a test
abbrev pub rules : Ledger → List Bool
rules l =
    eqb l.registry_slots 16
    ∷ leb l.registry_count 16
    ∷ eqb l.row_slots 256
    ∷ leb l.row_count 256
    ∷ all keeps_layout l.registries
    ∷ all well_credential l.rows
    ∷ distinct eq_said (ids_of l)
    ∷ distinct eq_pair (map key_of l.rows)
    ∷ all (has_registry (ids_of l)) l.rows
    ∷ all zero_or_one l.rows
    ∷ all keeps_rules l.registries
    ∷ []

-- those of them that speak of registries alone, and of rows alone
abbrev pub registry_rules : ℕ → ℕ → List Held → List Bool
registry_rules slots n gs =
    eqb slots 16 ∷ leb n 16 ∷ all keeps_layout gs ∷ distinct eq_said (map id_of gs) ∷ all keeps_rules gs ∷ []

abbrev pub row_rules : ℕ → ℕ → List CredentialState → List Bool
row_rules slots n ws =
    eqb slots 256 ∷ leb n 256 ∷ all well_credential ws ∷ distinct eq_pair (map key_of ws) ∷ all zero_or_one ws ∷ []

unfoldable pub sound : Ledger → Bool
sound l = holds (rules l)

-- the two numbers of a look-up: 0 or the refusal 1; 1 Issued, 2 Revoked, 3 Unknown, or 0 after a refusal
pub record LookedUp : Type 0 where
  pub refusal : ℕ
  pub standing : ℕ

abbrev pub standing_of : Option CredentialState → ℕ
standing_of none = 3
standing_of (some w) = cond (eqb (value w.sn) 0) 1 2

-- both saids of a key are saids
abbrev pub well_pair : Pair → Bool
well_pair k = is_said k.registry.0 && is_said k.credential.0

unfoldable pub look_up : Ledger → Pair → LookedUp
look_up l k = cond (sound l && well_pair k) (record { refusal = 0; standing = standing_of (row_at l k) }) (record { refusal = 1; standing = 0 })
