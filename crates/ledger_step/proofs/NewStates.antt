-- What the reading rules ask of the states that accepted attempts leave.
--     inception-id                      a new registry's id is the vcp's said
--     issue-well, issue-low             a new row keeps to its layout, and its sn is 0 or 1
--     revocation-well, revocation-low   so does a row that is revoked
use mathlib.Core.Path.{◌≡◌, refl}
use mathlib.Core.Bool.{Bool, true, false, cond, ◌&&◌, false≢true}
use Rattle.laws.proofs.Tests.{and_left, and_right}
use Rattle.cesr_sn.specs.Numbers.{value}
use Rattle.cesr.specs.Primitives.{eq_said, is_said}
use Rattle.cesr.specs.declared.Said.{Said}
use Rattle.cesr.proofs.Matters.{said-eq}
use Rattle.events_tel.specs.TelEvents.{Event}
use Rattle.events_tel.specs.TelEvents.Event.{vcp, vrt, iss, rev, bis, brv}
use Rattle.registry_state.specs.States.{Registry}
use Rattle.registry_state_credential.specs.CredentialStates.{well_credential}
use Rattle.registry_state_credential.specs.declared.CredentialState.{CredentialState}
use Rattle.registry_laws.specs.Attempts.{Message}
use Rattle.registry_answer.specs.Answers.{accepts, accept_if}
use Rattle.registry_error.specs.declared.RegistryRejection.TheVariants.{InconsistentRegistry}
use Rattle.registry_answer.proofs.AnswerLaws.{or-second, passed}
use Rattle.registry_laws.specs.Issuers.{issuer_kind}
use Rattle.registry_laws.specs.InceptionFolds as N
use Rattle.registry_laws.specs.IssueFolds as I
use Rattle.registry_laws.specs.CredentialFolds as C
use Rattle.registry_laws.specs.CredentialFolds.{said_of}
use Rattle.registry_laws.proofs.Chains.{all-accept}
use Rattle.registry_laws.proofs.Issues.{issue-names}
use Rattle.ledger_step.specs.Ledgers.{zero_or_one}
use Rattle.ledger_step.proofs.ReadLetters.{Lettered}

event-id : (e : Event) (m : Message) → accepts (N.incept_event e m) ≡ true → (N.incepted e).id ≡ said_of e
event-id (vcp said issuer toad configs backers) m h = refl
event-id (vrt said registry prior sn toad cuts additions) m h = absurd (false≢true h)
event-id (iss said credential registry) m h = absurd (false≢true h)
event-id (rev said credential registry prior) m h = absurd (false≢true h)
event-id (bis said credential registry seal) m h = absurd (false≢true h)
event-id (brv said credential prior seal) m h = absurd (false≢true h)

pub inception-id : (m : Message) → accepts (N.incept_message m).answer ≡ true → (N.incept_message m).state.id ≡ said_of m.event
unfolding N.incept_message N.incept_answer
inception-id m h = rw h (event-id m.event m (or-second (issuer_kind m.evidence) (N.incept_event m.event m) h))

-- the state of an issue has the letters of its event, where the event names the registry
issued-well : (id said credential registry : Said) → Lettered (iss said credential registry) → accepts (accept_if (eq_said registry id) InconsistentRegistry) ≡ true → well_credential (I.issued id (iss said credential registry)) ≡ true
unfolding well_credential
issued-well id said credential registry k h =
    rw (← said-eq registry id (passed (eq_said registry id) InconsistentRegistry h), k.2, k.1, k.0)

event-well : (g : Registry) (e : Event) (m : Message) → Lettered e → accepts (I.incept_event g e m) ≡ true → well_credential (I.issued g.id e) ≡ true
unfolding I.iss_answer I.bis_answer
event-well g (vcp said issuer toad configs backers) m k h = absurd (false≢true h)
event-well g (vrt said registry prior sn toad cuts additions) m k h = absurd (false≢true h)
event-well g (iss said credential registry) m k h = issued-well g.id said credential registry k (all-accept _ h).0
event-well g (rev said credential registry prior) m k h = absurd (false≢true h)
event-well g (bis said credential registry seal) m k h = issued-well g.id said credential registry k (all-accept _ h).0
event-well g (brv said credential prior seal) m k h = absurd (false≢true h)

pub issue-well : (g : Registry) (m : Message) → Lettered m.event → accepts (I.incept_message g m).answer ≡ true → well_credential (I.incept_message g m).state ≡ true
unfolding I.incept_message
issue-well g m k h = rw h (event-well g m.event m k h)

pub issue-low : (g : Registry) (m : Message) → accepts (I.incept_message g m).answer ≡ true → zero_or_one (I.incept_message g m).state ≡ true
unfolding value
issue-low g m h = rw (issue-names g m h).1

pub revocation-well : (g : Registry) (w : CredentialState) (m : Message) → is_said (said_of m.event).0 ≡ true → well_credential w ≡ true → well_credential (C.ingest_message g w m).state ≡ true
unfolding C.ingest_message well_credential
revocation-well g w m k h = go (accepts (C.ingest_answer g w m))
  where
    rest : (is_said w.credential.0 && is_said w.head.0) ≡ true
    rest = and_right (is_said w.registry.0) (is_said w.credential.0 && is_said w.head.0) h

    go : (t : Bool) → well_credential (cond t (C.revoked w m.event) w) ≡ true
    go true =
        rw (and_left (is_said w.registry.0) (is_said w.credential.0 && is_said w.head.0) h, and_left (is_said w.credential.0) (is_said w.head.0) rest, k)
    go false = h

pub revocation-low : (g : Registry) (w : CredentialState) (m : Message) → zero_or_one w ≡ true → zero_or_one (C.ingest_message g w m).state ≡ true
unfolding C.ingest_message value
revocation-low g w m h = go (accepts (C.ingest_answer g w m))
  where
    go : (t : Bool) → zero_or_one (cond t (C.revoked w m.event) w) ≡ true
    go true = refl
    go false = h
