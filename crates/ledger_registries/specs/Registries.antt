-- The registries of a ledger, as they are lent (docs/RULES.md, "Ledger", "Reading rules").
use Rattle.std.specs.Prelude.{ℕ, false, List, [], map, take}
use Rattle.cesr.specs.Primitives.{eq_said, none}
use Rattle.cesr.specs.declared.Said.{Said}
use Rattle.registry_state.specs.States.{no_registry, no_said, no_sn}
use Rattle.registry_state.specs.declared.RegistryState.{RegistryState}
use Rattle.ledger_step.specs.Tables.{place}
use Rattle.ledger_step.specs.Ledgers.{Held, held_of, id_of}

-- what stands at a place where there is no registry: as it is held, and as a state
abbrev pub no_held : Held
no_held = record { well = false; state = no_registry }

abbrev pub blank : RegistryState
blank =
    record
    { id = no_said; issuer = none; sn = no_sn; latest = no_said; toad = record { 0 = 0 }; configs = record { codes = []; count = 0 }; backers = record { items = []; count = 0 } }

-- the least place among the first count registries whose registry has that id; where there is none, how many these registries are: the lesser of the count and the length
unfoldable pub find_registry : List RegistryState → ℕ → Said → ℕ
find_registry gs count id = place id_of eq_said no_held id (map held_of (take count gs))
