-- The rotation of a registry, made of its state's bytes and its attempt's.
--     made-rotated    the bytes of its next state
--     rotated-next    a rotation that accepts, by these bytes
--     rotation-refused  and one that refuses
use Prim.Native.Nat.{ℕ}
use mathlib.Core.Path.{◌≡◌, sym}
use mathlib.Core.List.{List}
use mathlib.Core.Option.{some}
use Rattle.cesr.specs.Primitives.{read_matter}
use Rattle.events_tel.specs.TelEvents.{members_in}
use Rattle.events_tel.specs.declared.Listed.{Listed}
use Rattle.registry_room.specs.NextStates.{next_members, next_bytes}
use Rattle.registry_room.specs.declared.NextState.{NextState}
use Rattle.registry_state.specs.States.{Registry, registry_bytes}
use Rattle.registry_state.proofs.StateLoops.{registry-head}
use Rattle.registry_management.specs.Managements.{view_management}
use Rattle.registry_management.specs.declared.Management.{Management}
use Rattle.registry_wire.specs.Attempts.{decode_of}
use Rattle.registry_error.specs.declared.RegistryRejection.{RegistryRejection}
use Rattle.std.proofs.Common.{Ok, Err}
use Rattle.registry.specs.RegistryFolds.{ingest_decoded, rotated_at, rotation_at}
use Rattle.registry.specs.declared.RotationRead.{RotationRead}
use Rattle.host_next.specs.ByteFolds.{registry_in, next_folded}
use Rattle.host_registry.specs.RegistryByteFolds.{registry_ingest}

pub made-rotated : (g : Management) (current : Listed) (o : RotationRead) (held s : List ℕ) → read_matter held 0 ≡ g.id.0 → read_matter held 33 ≡ g.issuer → next_bytes held s (record { id = 0; issuer = 33; sn = o.sn; latest = o.latest; toad = o.toad; configs = g.configs; current = current; cuts = o.cuts; additions = o.additions }) ≡ registry_bytes (rotated_at (view_management g (members_in held current)) s o)
unfolding next_bytes next_members rotated_at
made-rotated g current o held s e f = rw (e, f) (sym (registry-head (rotated_at (view_management g (members_in held current)) s o)))

module _ (state attempt : List ℕ) (g : Registry) (r : registry_in state ≡ some g) where
  pub rotated-next : (o : RotationRead) → rotation_at g attempt (Ok o) ≡ ingest_decoded g (decode_of attempt) → (p : NextState) → next_bytes state attempt p ≡ registry_bytes (rotated_at g attempt o) → next_folded state attempt p ≡ registry_ingest state attempt
  unfolding registry_ingest
  rotated-next o e p q = rw (r, ← e, q)

  pub rotation-refused : (q : RegistryRejection) → rotation_at g attempt (Err q) ≡ ingest_decoded g (decode_of attempt) → Err q ≡ (registry_ingest state attempt).answer
  unfolding registry_ingest
  rotation-refused q e = rw (r, ← e)
