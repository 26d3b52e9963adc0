-- The fold of a credential's issue, and the outcome that the folds of a credential share (docs/RULES.md, "Orders", "Next states").
use Rattle.std.specs.Prelude.{ℕ, List, [], ◌∷◌, Bool, not, cond}
use Rattle.cesr.specs.Primitives.{eq_said, said_at}
use Rattle.cesr.specs.declared.Said.{Said}
use Rattle.events_tel.specs.TelEvents.{Event, sn_zero}
use Rattle.events_tel.specs.TelEvents.Event.{vcp, vrt, iss, rev, bis, brv}
use Rattle.events_seal.specs.declared.Seal.{Seal}
use Rattle.registry_management.specs.States.{Registry, view_registry, well_registry}
use Rattle.registry_state_credential.specs.CredentialStates.{no_credential}
use Rattle.registry_management.specs.declared.RegistryState.{RegistryState}
use Rattle.registry_state_credential.specs.declared.CredentialState.{CredentialState}
use Rattle.registry_backer.specs.Attempts.{Message, Decoded, decode_of}
use Rattle.registry_backer.specs.Attempts.Decoded.{malformed, decoded}
use Rattle.registry_error.specs.declared.RegistryRejection.TheVariants.{Malformed, NotCredentialInception, InconsistentRegistry, SimpleEventOnBackerRegistry, BackedEventOnBackerlessRegistry}
use Rattle.registry_error.specs.declared.RegistryRejection.{RegistryRejection}
use Rattle.registry_error.specs.Errors.{Answer}
use Rattle.std.specs.Prelude.{Result, Ok, Err}
use Rattle.registry_answer.specs.Answers.{accepts, accept_if, first_of}
use Rattle.registry_authentication.specs.Issuers.{anchored, authenticate_issuer}
use Rattle.registry_backing.specs.Backings.{own_among}
use Rattle.registry_backer.specs.Backers.{is_backerless, authenticate_backer}
use Rattle.registry_issue.specs.declared.Issue.{Issue}

-- an answer, and the state behind it
pub record Outcome : Type 0 where
  pub answer : Answer
  pub state : CredentialState

-- an iss after 8: 10, 12, 18 to 21
unfoldable pub iss_answer : Registry → Said → Said → Said → Message → Answer
iss_answer g said credential registry m =
    first_of
    (accept_if (eq_said registry g.id) InconsistentRegistry
    ∷ accept_if (is_backerless g) SimpleEventOnBackerRegistry
    ∷ authenticate_issuer g.issuer credential sn_zero said m
    ∷ [])

-- a bis after 8: 10, 13, 20, 21, then its authority: 22 (seal), 10 (seal's i), by evidence 22, 23 or 19, then 24, 26, 27
abbrev pub bis_checks : Registry → Said → Said → Said → Message → Answer → Answer
bis_checks g said credential registry m authority =
    first_of
    (accept_if (eq_said registry g.id) InconsistentRegistry
    ∷ accept_if (not (is_backerless g)) BackedEventOnBackerlessRegistry
    ∷ anchored g.issuer credential sn_zero said m.source m.anchor
    ∷ authority
    ∷ [])

unfoldable pub bis_answer : Registry → Said → Said → Said → Seal → Message → Answer
bis_answer g said credential registry seal m =
    bis_checks g said credential registry m (authenticate_backer g seal m.evidence m.signatures)

-- 8: another kind than an iss and a bis
abbrev pub each_inception : (Said → Said → Said → Answer) → (Said → Said → Said → Seal → Answer) → Event → Answer
each_inception on_iss on_bis (vcp said issuer toad configs backers) = Err NotCredentialInception
each_inception on_iss on_bis (vrt said registry prior sn toad cuts additions) = Err NotCredentialInception
each_inception on_iss on_bis (iss said credential registry) = on_iss said credential registry
each_inception on_iss on_bis (rev said credential registry prior) = Err NotCredentialInception
each_inception on_iss on_bis (bis said credential registry seal) = on_bis said credential registry seal
each_inception on_iss on_bis (brv said credential prior seal) = Err NotCredentialInception

abbrev pub incept_event : Registry → Event → Message → Answer
incept_event g e m =
    each_inception (λ said credential registry. iss_answer g said credential registry m) (λ said credential registry seal. bis_answer g said credential registry seal m) e

-- the state that an issue under a registry leaves
abbrev pub issued : Said → Event → CredentialState
issued id (vcp said issuer toad configs backers) = no_credential
issued id (vrt said registry prior sn toad cuts additions) = no_credential
issued id (iss said credential registry) = record { registry = id; credential = credential; sn = sn_zero; head = said }
issued id (rev said credential registry prior) = no_credential
issued id (bis said credential registry seal) = record { registry = id; credential = credential; sn = sn_zero; head = said }
issued id (brv said credential prior seal) = no_credential

unfoldable pub incept_message : Registry → Message → Outcome
incept_message g m =
    record { answer = incept_event g m.event m; state = cond (accepts (incept_event g m.event m)) (issued g.id m.event) no_credential }

abbrev pub incept_decoded : Registry → Decoded → Outcome
incept_decoded g malformed = record { answer = Err Malformed; state = no_credential }
incept_decoded g (decoded m) = incept_message g m

-- 1 before everything, of the state that is handed in too
abbrev pub incept_if : Bool → Registry → List ℕ → Outcome
incept_if well g s = cond well (incept_decoded g (decode_of s)) (record { answer = Err Malformed; state = no_credential })

unfoldable pub incept_of : RegistryState → List ℕ → Outcome
incept_of g s = incept_if (well_registry g) (view_registry g) s

-- what a call answers; after a refusal the state is the one that was handed in, w, which is blank where none was
abbrev pub view_outcome : CredentialState → Result CredentialState RegistryRejection → Outcome
view_outcome w (Ok x) = record { answer = Ok tt; state = x }
view_outcome w (Err r) = record { answer = Err r; state = w }

-- the state that the places of an issue stand for
abbrev pub issued_at : List ℕ → Issue → CredentialState
issued_at s r = record { registry = said_at s r.registry; credential = said_at s r.credential; sn = sn_zero; head = said_at s r.said }

-- what an issue comes to, with the registry's own backers behind it
abbrev pub issue_at : Registry → List ℕ → Result Issue RegistryRejection → Outcome
issue_at g s (Ok r) =
    record { answer = own_among g.toad g.backers s r.own; state = cond (accepts (own_among g.toad g.backers s r.own)) (issued_at s r) no_credential }
issue_at g s (Err r) = record { answer = Err r; state = no_credential }
