-- The fold of a credential's revocation (docs/RULES.md, "Orders", "Next states").
use Rattle.std.specs.Prelude.{ℕ, List, [], ◌∷◌, Bool, not, cond, ◌&&◌}
use Rattle.cesr.specs.Primitives.{eq_said}
use Rattle.cesr.specs.declared.Said.{Said}
use Rattle.events_tel.specs.TelEvents.{Event, sn_one}
use Rattle.events_tel.specs.TelEvents.Event.{vcp, vrt, iss, rev, bis, brv}
use Rattle.events_seal.specs.declared.Seal.{Seal}
use Rattle.registry_state.specs.States.{Registry, view_registry, well_registry}
use Rattle.registry_state_credential.specs.CredentialStates.{well_credential}
use Rattle.registry_state.specs.declared.RegistryState.{RegistryState}
use Rattle.registry_state_credential.specs.declared.CredentialState.{CredentialState}
use Rattle.registry_backer.specs.Attempts.{Message, Decoded, decode_of}
use Rattle.registry_backer.specs.Attempts.Decoded.{malformed, decoded}
use Rattle.registry_error.specs.declared.RegistryRejection.TheVariants.{Malformed, NotCredentialTransition, InconsistentRegistry, SimpleEventOnBackerRegistry, BackedEventOnBackerlessRegistry}
use Rattle.registry_error.specs.Errors.{Answer}
use Rattle.std.specs.Prelude.{Err}
use Rattle.registry_answer.specs.Answers.{accepts, accept_if, or_else, first_of}
use Rattle.registry_authentication.specs.Issuers.{anchored, authenticate_issuer}
use Rattle.registry_backer.specs.Backers.{is_backerless, names_registry, authenticate_backer}
use Rattle.registry_transition.specs.Transitions.{transition}
use Rattle.registry_issue.specs.IssueFolds.{Outcome}

-- a rev after 9: 10, 12, 18 to 21, then 28, 15 to 17, which its place behind the held state comes to
abbrev pub rev_checks : Registry → Said → Said → Said → Message → Answer → Answer
rev_checks g said credential registry m place =
    first_of
    (accept_if (eq_said registry g.id) InconsistentRegistry
    ∷ accept_if (is_backerless g) SimpleEventOnBackerRegistry
    ∷ authenticate_issuer g.issuer credential sn_one said m
    ∷ place
    ∷ [])

unfoldable pub rev_answer : Registry → CredentialState → Said → Said → Said → Said → Message → Answer
rev_answer g w said credential registry prior m = rev_checks g said credential registry m (transition w credential prior)

-- a brv after 9: 10 (seal), 13, then as bis from 20, its authority too, then 28, 15 to 17, which its place behind the held state comes to
abbrev pub brv_checks : Registry → Said → Said → Seal → Message → Answer → Answer → Answer
brv_checks g said credential seal m authority behind =
    first_of
    (accept_if (names_registry seal g.id) InconsistentRegistry
    ∷ accept_if (not (is_backerless g)) BackedEventOnBackerlessRegistry
    ∷ anchored g.issuer credential sn_one said m.source m.anchor
    ∷ authority
    ∷ behind
    ∷ [])

unfoldable pub brv_answer : Registry → CredentialState → Said → Said → Said → Seal → Message → Answer
brv_answer g w said credential prior seal m =
    brv_checks g said credential seal m (authenticate_backer g seal m.evidence m.signatures) (transition w credential prior)

-- 9: another kind than a rev and a brv
abbrev pub each_transition : (Said → Said → Said → Said → Answer) → (Said → Said → Said → Seal → Answer) → Event → Answer
each_transition on_rev on_brv (vcp said issuer toad configs backers) = Err NotCredentialTransition
each_transition on_rev on_brv (vrt said registry prior sn toad cuts additions) = Err NotCredentialTransition
each_transition on_rev on_brv (iss said credential registry) = Err NotCredentialTransition
each_transition on_rev on_brv (rev said credential registry prior) = on_rev said credential registry prior
each_transition on_rev on_brv (bis said credential registry seal) = Err NotCredentialTransition
each_transition on_rev on_brv (brv said credential prior seal) = on_brv said credential prior seal

abbrev pub ingest_event : Registry → CredentialState → Event → Message → Answer
ingest_event g w e m =
    each_transition (λ said credential registry prior. rev_answer g w said credential registry prior m) (λ said credential prior seal. brv_answer g w said credential prior seal m) e

-- 10 of the held state first
unfoldable pub ingest_answer : Registry → CredentialState → Message → Answer
ingest_answer g w m = or_else (accept_if (eq_said w.registry g.id) InconsistentRegistry) (ingest_event g w m.event m)

-- the digest of an event
abbrev pub said_of : Event → Said
said_of (vcp said issuer toad configs backers) = said
said_of (vrt said registry prior sn toad cuts additions) = said
said_of (iss said credential registry) = said
said_of (rev said credential registry prior) = said
said_of (bis said credential registry seal) = said
said_of (brv said credential prior seal) = said

-- the state that a revocation leaves: registry and credential stay
abbrev pub revoked : CredentialState → Event → CredentialState
revoked w e = record { registry = w.registry; credential = w.credential; sn = sn_one; head = said_of e }

unfoldable pub ingest_message : Registry → CredentialState → Message → Outcome
ingest_message g w m =
    record { answer = ingest_answer g w m; state = cond (accepts (ingest_answer g w m)) (revoked w m.event) w }

abbrev pub ingest_decoded : Registry → CredentialState → Decoded → Outcome
ingest_decoded g w malformed = record { answer = Err Malformed; state = w }
ingest_decoded g w (decoded m) = ingest_message g w m

-- 1 before everything, of both states that are handed in too
abbrev pub ingest_if : Bool → Registry → CredentialState → List ℕ → Outcome
ingest_if well g w s = cond well (ingest_decoded g w (decode_of s)) (record { answer = Err Malformed; state = w })

unfoldable pub ingest_of : RegistryState → CredentialState → List ℕ → Outcome
ingest_of g w s = ingest_if (well_registry g && well_credential w) (view_registry g) w s
