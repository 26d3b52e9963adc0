-- The folds of a registry over bytes (docs/RULES.md, "Host's calls").
use Rattle.std.specs.Prelude.{ℕ, ◌≡◌, List, Result, Ok, Err}
use Rattle.std.proofs.Math.Option.{Option, none, some}
use Rattle.registry_state.specs.States.{Registry}
use Rattle.registry_wire.specs.Attempts.{decode_of}
use Rattle.registry_inception.specs.InceptionFolds as N
use Rattle.registry.specs.RegistryFolds as G
use Rattle.registry_room.specs.declared.NextState.{NextState}
use Rattle.registry_error.specs.declared.RegistryRejection.{RegistryRejection}
use Rattle.host_next.specs.ByteFolds.{registry_in, Folded, registry_folded, next_folded, no_state}

-- vcp: no state is handed in
unfoldable pub registry_incept : List ℕ → Folded
registry_incept attempt = registry_folded (N.incept_of attempt)

-- vrt
abbrev pub ingest_registry : Option Registry → List ℕ → Folded
ingest_registry none attempt = no_state
ingest_registry (some g) attempt = registry_folded (G.ingest_decoded g (decode_of attempt))

unfoldable pub registry_ingest : List ℕ → List ℕ → Folded
registry_ingest state attempt = ingest_registry (registry_in state) attempt

-- what a fold over bytes hands on: the places of the state that it leaves, or its refusal
abbrev pub Leaves : List ℕ → List ℕ → Result NextState RegistryRejection → Folded → Type 0
Leaves held s (Ok p) f = next_folded held s p ≡ f
Leaves held s (Err r) f = Err r ≡ f.answer
