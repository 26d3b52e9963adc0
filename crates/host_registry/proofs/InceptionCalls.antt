-- The inception of a registry, made of its attempt alone.
--     made            the bytes of its state
--     incepted-next   an inception that accepts, by these bytes
--     incept-refused  and one that refuses
use Prim.Native.Nat.{ℕ}
use mathlib.Core.Path.{◌≡◌, ap, sym}
use mathlib.Core.List.{List}
use Rattle.codec_cursor.specs.declared.Cursor.{Cursor}
use Rattle.codec_cursor.specs.Readers.{times}
use Rattle.events_tel.specs.TelEvents.{sn_zero, members_in}
use Rattle.registry_members.specs.Updated.{survivors, updated_members}
use Rattle.registry_room.specs.NextStates.{next_members, next_bytes}
use Rattle.registry_room.specs.declared.NextState.{NextState}
use Rattle.registry_state.specs.States.{registry_bytes}
use Rattle.registry_state.proofs.StateLoops.{registry-head}
use Rattle.registry_error.specs.declared.RegistryRejection.{RegistryRejection}
use Rattle.std.proofs.Common.{Ok, Err}
use Rattle.registry_inception.specs.InceptionFolds.{Outcome, incepted_at, inception_at, incept_of}
use Rattle.registry_inception.specs.declared.Inception.{Inception}
use Rattle.host_next.specs.ByteFolds.{next_folded}
use Rattle.host_registry.specs.RegistryByteFolds.{registry_incept}

pub made : (s : List ℕ) (o : Inception) (c : Cursor) → next_bytes s s (record { id = o.said; issuer = o.issuer; sn = sn_zero; latest = o.said; toad = o.toad; configs = o.configs; current = record { count = 0; start = c }; cuts = record { count = 0; start = c }; additions = o.backers }) ≡ registry_bytes (incepted_at s o)
unfolding next_bytes next_members updated_members survivors members_in times incepted_at
made s o c = sym (registry-head (incepted_at s o))

pub incepted-next : (s : List ℕ) (o : Inception) → inception_at s (Ok o) ≡ incept_of s → (p : NextState) → next_bytes s s p ≡ registry_bytes (incepted_at s o) → next_folded s s p ≡ registry_incept s
unfolding registry_incept
incepted-next s o e p q = rw (← e, q)

pub incept-refused : (s : List ℕ) (r : RegistryRejection) → inception_at s (Err r) ≡ incept_of s → Err r ≡ (registry_incept s).answer
unfolding registry_incept
incept-refused s r e = ap (λ (x : Outcome). x.answer) e
