-- The fold of a revocation in parts, since the code has the held state and the registry's own backers only where a caller has them.
use Rattle.std.specs.Prelude.{ℕ, List, cond, Result, Ok, Err}
use Rattle.cesr.specs.Primitives.{said_at}
use Rattle.cesr.specs.declared.Said.{Said}
use Rattle.cesr.specs.declared.BasicPrefix.{BasicPrefix}
use Rattle.events_tel.specs.TelEvents.{Event, sn_one}
use Rattle.events_seal.specs.declared.Seal.{Seal}
use Rattle.registry_state.specs.States.{Registry}
use Rattle.registry_state_credential.specs.declared.CredentialState.{CredentialState}
use Rattle.registry_backer.specs.Attempts.{Message}
use Rattle.registry_error.specs.declared.RegistryRejection.{RegistryRejection}
use Rattle.registry_error.specs.Errors.{Answer}
use Rattle.registry_answer.specs.Answers.{accepts, or_else}
use Rattle.registry_backing.specs.Backings.{own_among}
use Rattle.registry_backer.specs.Backers.{resolved_backer}
use Rattle.registry_transition.specs.Transitions.{transition}
use Rattle.registry_issue.specs.IssueFolds.{Outcome}
use Rattle.registry_credential_state.specs.CredentialFolds.{rev_checks, brv_checks, each_transition}
use Rattle.registry_credential_state.specs.declared.Revocation.{Revocation}

-- a rev, but for its place behind the held state
unfoldable pub rev_resolved : Registry → Said → Said → Said → Message → Answer
rev_resolved g said credential registry m = rev_checks g said credential registry m (Ok tt)

-- a brv, but for that and for the registry's own backers
unfoldable pub brv_resolved : Registry → Said → Said → Seal → Message → Answer
brv_resolved g said credential seal m = brv_checks g said credential seal m (resolved_backer g seal m.evidence m.signatures) (Ok tt)

abbrev pub event_resolved : Registry → Event → Message → Answer
event_resolved g e m =
    each_transition (λ said credential registry prior. rev_resolved g said credential registry m) (λ said credential prior seal. brv_resolved g said credential seal m) e

-- what is left of a revocation with the registry's toad and backers and with the held state
abbrev pub left_of : ℕ → List BasicPrefix → CredentialState → List ℕ → Revocation → Answer
left_of toad backers w s r = or_else (own_among toad backers s r.own) (transition w (said_at s r.credential) (said_at s r.prior))

-- the state that the places of a revocation stand for
abbrev pub revoked_at : CredentialState → List ℕ → Revocation → CredentialState
revoked_at w s r = record { registry = w.registry; credential = w.credential; sn = sn_one; head = said_at s r.said }

-- what a revocation comes to
abbrev pub revocation_at : Registry → CredentialState → List ℕ → Result Revocation RegistryRejection → Outcome
revocation_at g w s (Ok r) =
    record { answer = left_of g.toad g.backers w s r; state = cond (accepts (left_of g.toad g.backers w s r)) (revoked_at w s r) w }
revocation_at g w s (Err r) = record { answer = Err r; state = w }
