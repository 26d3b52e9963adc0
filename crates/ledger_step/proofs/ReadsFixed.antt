-- What the folds of a credential read of a registry, without the present head as authority: id, issuer and config.
--     issue-fixed, revocation-fixed
use mathlib.Core.Path.{◌≡◌, refl}
use mathlib.Core.Logic.{◌≢◌}
use mathlib.Core.Bool.{false, true≢false}
use Rattle.events_tel.specs.TelEvents.{Event}
use Rattle.events_tel.specs.TelEvents.Event.{vcp, vrt, iss, rev, bis, brv}
use Rattle.registry_state.specs.States.{Registry}
use Rattle.registry_state_credential.specs.declared.CredentialState.{CredentialState}
use Rattle.registry_laws.specs.Attempts.{Message, Evidence}
use Rattle.registry_laws.specs.Attempts.Evidence.{backer}
use Rattle.registry_laws.specs.IssueFolds as I
use Rattle.registry_laws.specs.CredentialFolds as C
use Rattle.registry_laws.specs.States.{OneRegistry}
use Rattle.registry_laws.proofs.UsedFields.{issue-reads, revocation-reads}
use Rattle.ledger_step.specs.OrderFreedom.{is_head, takes_head}

other-evidence : (e : Evidence) → is_head e ≡ false → e ≢ backer
other-evidence e h q = true≢false (rw (← h, q))

module _ (g h : Registry) (one : OneRegistry g h) (m : Message) where
  issue-by : (e : Event) → m.event ≡ e → takes_head e m.evidence ≡ false → I.incept_message g m ≡ I.incept_message h m
  unfolding I.incept_message I.iss_answer
  issue-by (vcp said prefix toad configs backers) q k = rw q
  issue-by (vrt said registry prior sn toad cuts additions) q k = rw q
  issue-by (iss said credential registry) q k = rw (q, one.id, one.configs, one.issuer)
  issue-by (rev said credential registry prior) q k = rw q
  issue-by (bis said credential registry seal) q k = issue-reads g h one m (other-evidence m.evidence k)
  issue-by (brv said credential prior seal) q k = rw q

  pub issue-fixed : takes_head m.event m.evidence ≡ false → I.incept_message g m ≡ I.incept_message h m
  issue-fixed k = issue-by m.event refl k

  revocation-by : (w : CredentialState) (e : Event) → m.event ≡ e → takes_head e m.evidence ≡ false → C.ingest_message g w m ≡ C.ingest_message h w m
  unfolding C.ingest_message C.ingest_answer C.rev_answer
  revocation-by w (vcp said prefix toad configs backers) q k = rw (q, one.id)
  revocation-by w (vrt said registry prior sn toad cuts additions) q k = rw (q, one.id)
  revocation-by w (iss said credential registry) q k = rw (q, one.id)
  revocation-by w (rev said credential registry prior) q k = rw (q, one.id, one.configs, one.issuer)
  revocation-by w (bis said credential registry seal) q k = rw (q, one.id)
  revocation-by w (brv said credential prior seal) q k = revocation-reads g h one w m (other-evidence m.evidence k)

  pub revocation-fixed : (w : CredentialState) → takes_head m.event m.evidence ≡ false → C.ingest_message g w m ≡ C.ingest_message h w m
  revocation-fixed w k = revocation-by w m.event refl k
