-- What the fold of a credential keeps of the state.
--     kept    registry and credential stay, so the old state with the outcome's sn and head is the outcome's state
use Prim.Native.Nat.{ℕ}
use mathlib.Core.Path.{◌≡◌, refl}
use mathlib.Core.List.{List}
use mathlib.Core.Bool.{Bool, true, false, cond, ◌&&◌}
use Rattle.registry_state.specs.States.{Registry, view_registry, well_registry}
use Rattle.registry_state_credential.specs.CredentialStates.{well_credential}
use Rattle.registry_state.specs.declared.RegistryState.{RegistryState}
use Rattle.registry_state_credential.specs.declared.CredentialState.{CredentialState}
use Rattle.registry_wire.specs.Attempts.{Decoded, decode_of}
use Rattle.registry_wire.specs.Attempts.Decoded.{malformed, decoded}
use Rattle.registry_answer.specs.Answers.{accepts}
use Rattle.registry_error.specs.Errors.{Answer}
use Rattle.std.proofs.Common.{Err}
use Rattle.registry_error.specs.declared.RegistryRejection.TheVariants.{Malformed}
use Rattle.registry_issue.specs.IssueFolds.{Outcome}
use Rattle.registry_credential_state.specs.CredentialFolds.{ingest_answer, revoked, ingest_message, ingest_decoded, ingest_of}

-- the state w, with the sn and the head of v
abbrev pub stored : CredentialState → CredentialState → CredentialState
stored w v = record { registry = w.registry; credential = w.credential; sn = v.sn; head = v.head }

next-kept : (b : Bool) (w v : CredentialState) → stored w v ≡ v → stored w (cond b v w) ≡ cond b v w
next-kept true w v h = h
next-kept false w v h = refl

outcome-kept : (b : Bool) (w : CredentialState) (o : Outcome) (x : Answer) → stored w o.state ≡ o.state → stored w (cond b o (record { answer = x; state = w })).state ≡ (cond b o (record { answer = x; state = w })).state
outcome-kept true w o x h = h
outcome-kept false w o x h = refl

decoded-kept : (g : Registry) (w : CredentialState) (d : Decoded) → stored w (ingest_decoded g w d).state ≡ (ingest_decoded g w d).state
unfolding ingest_message
decoded-kept g w malformed = refl
decoded-kept g w (decoded m) = next-kept (accepts (ingest_answer g w m)) w (revoked w m.event) refl

pub kept : (g : RegistryState) (w : CredentialState) (s : List ℕ) → stored w (ingest_of g w s).state ≡ (ingest_of g w s).state
unfolding ingest_of
kept g w s =
    outcome-kept (well_registry g && well_credential w) w (ingest_decoded (view_registry g) w (decode_of s)) (Err Malformed) (decoded-kept (view_registry g) w (decode_of s))
