-- The fold of a credential's revocation over decoded attempts.
--     rev-.., brv-..     the checks made one after the other: the first that refuses is the answer
--     other-kind         9
--     elsewhere          10 of the held state
--     refused, accepted  the outcome, with what the callers have behind the rest
use Prim.Native.Nat.{ℕ}
use mathlib.Core.Path.{◌≡◌, refl, sym, ◌∙◌}
use mathlib.Core.List.{List}
use mathlib.Core.Bool.{true, false, cond}
use Rattle.cesr.specs.Primitives.{said_at, eq_said}
use Rattle.cesr.specs.declared.Said.{Said}
use Rattle.events_tel.specs.TelEvents.{event_as, sn_one}
use Rattle.events_seal.specs.declared.Seal.{Seal}
use Rattle.events_tel.specs.declared.Kind.{Kind}
use Rattle.events_tel.specs.declared.Kind.TheVariants.{Vcp, Vrt, Iss, Rev, Bis, Brv}
use Rattle.events_tel.specs.declared.TelEvent.{TelEvent}
use Rattle.registry_state.specs.States.{Registry}
use Rattle.registry_state_credential.specs.declared.CredentialState.{CredentialState}
use Rattle.registry_backer.specs.Attempts.{Message, view_attempt}
use Rattle.registry_backer.specs.declared.Attempt.{Attempt}
use Rattle.registry_answer.specs.Answers.{accepts, accept_if, first_of}
use Rattle.registry_answer.proofs.AnswerLaws.{or-nothing, first-last}
use Rattle.registry_authentication.specs.Issuers.{anchored, authenticate_issuer}
use Rattle.registry_backer.specs.Backers.{is_backerless, names_registry, resolved_backer, asks_own}
use Rattle.registry_backing.specs.Backings.{own_where, own_among}
use Rattle.registry_error.specs.Errors.{Answer}
use Rattle.std.proofs.Common.{Option, Ok, Err}
use Rattle.registry_error.specs.declared.RegistryRejection.TheVariants.{NotCredentialTransition, InconsistentRegistry, SimpleEventOnBackerRegistry, BackedEventOnBackerlessRegistry}
use Rattle.registry_credential_state.specs.CredentialFolds.{ingest_answer, said_of, ingest_message}
use Rattle.registry_credential_state.specs.CredentialParts.{rev_resolved, brv_resolved, event_resolved, revocation_at}
use Rattle.registry_signatures.specs.declared.Counted.{Counted}
use Rattle.registry_error.specs.declared.RegistryRejection.{RegistryRejection}
use Rattle.registry_credential_state.proofs.PartLaws.{ingest-parts}

-- every kind has its digest in the same field
event-said : (s : List ℕ) (k : Kind) (e : TelEvent) → said_of (event_as s k e) ≡ said_at s e.said
event-said s Vcp e = refl
event-said s Vrt e = refl
event-said s Iss e = refl
event-said s Rev e = refl
event-said s Bis e = refl
event-said s Brv e = refl

module _ (g : Registry) (said credential : Said) (m : Message) where
  module _ (registry : Said) where
    pub rev-routed : eq_said registry g.id ≡ false → Err InconsistentRegistry ≡ rev_resolved g said credential registry m
    unfolding rev_resolved first_of accept_if
    rev-routed h = rw h

    pub rev-flavor : eq_said registry g.id ≡ true → is_backerless g ≡ false → Err SimpleEventOnBackerRegistry ≡ rev_resolved g said credential registry m
    unfolding rev_resolved first_of accept_if
    rev-flavor h k = rw (h, k)

    pub rev-issuer : eq_said registry g.id ≡ true → is_backerless g ≡ true → (x : Answer) → x ≡ authenticate_issuer g.issuer credential sn_one said m → x ≡ rev_resolved g said credential registry m
    unfolding rev_resolved first_of accept_if
    rev-issuer h k x e = rw (h, k) (e ∙ sym (first-last (authenticate_issuer g.issuer credential sn_one said m)))

  module _ (seal : Seal) where
    abbrev anchor : Answer
    anchor = anchored g.issuer credential sn_one said m.source m.anchor

    abbrev authority : Answer
    authority = resolved_backer g seal m.evidence m.signatures

    pub brv-routed : names_registry seal g.id ≡ false → Err InconsistentRegistry ≡ brv_resolved g said credential seal m
    unfolding brv_resolved first_of accept_if
    brv-routed h = rw h

    pub brv-flavor : names_registry seal g.id ≡ true → is_backerless g ≡ true → Err BackedEventOnBackerlessRegistry ≡ brv_resolved g said credential seal m
    unfolding brv_resolved first_of accept_if
    brv-flavor h k = rw (h, k)

    module _ (h : names_registry seal g.id ≡ true) (k : is_backerless g ≡ false) where
      pub brv-anchor : (r : RegistryRejection) → anchor ≡ Err r → Err r ≡ brv_resolved g said credential seal m
      unfolding brv_resolved first_of accept_if
      brv-anchor r e = rw (h, k, e)

      pub brv-backed : anchor ≡ Ok tt → authority ≡ brv_resolved g said credential seal m
      unfolding brv_resolved first_of accept_if
      brv-backed e = rw (h, k, e) (sym (or-nothing authority))

-- the kinds that a match on a rev and a brv leaves over
pub other-kind : (g : Registry) (s : List ℕ) (k : Kind) (e : TelEvent) (m : Message) → (k ≡ Rev → ⊥) → (k ≡ Brv → ⊥) → Err NotCredentialTransition ≡ event_resolved g (event_as s k e) m
other-kind g s Rev e m h h' = absurd (h refl)
other-kind g s Brv e m h h' = absurd (h' refl)
other-kind g s _ e m h h' = refl

-- the outcome of an attempt that was decoded
module _ (g : Registry) (w : CredentialState) (s : List ℕ) (a : Attempt) where
  abbrev m : Message
  m = view_attempt s a

  abbrev own : Answer
  own = own_where (asks_own m.evidence) g.toad g.backers m.signatures

  state_of : (x : Answer) → ingest_answer g w m ≡ x → record { answer = x; state = cond (accepts x) (record { registry = w.registry; credential = w.credential; sn = sn_one; head = said_at s a.event.said }) w } ≡ ingest_message g w m
  unfolding ingest_message
  state_of x n = rw (n, event-said s a.event.kind a.event)

  pub elsewhere : eq_said w.registry g.id ≡ false → record { answer = Err InconsistentRegistry; state = w } ≡ ingest_message g w m
  unfolding accept_if
  elsewhere h = state_of (Err InconsistentRegistry) (ingest-parts g w s a ∙ rw h)

  module _ (h : eq_said w.registry g.id ≡ true) where
    pub refused : (r : RegistryRejection) → Err r ≡ event_resolved g m.event m → record { answer = Err r; state = w } ≡ ingest_message g w m
    unfolding accept_if
    refused r e = state_of (Err r) (ingest-parts g w s a ∙ rw (h, ← e))

    pub accepted : Ok tt ≡ event_resolved g m.event m → (o : Option Counted) → own_among g.toad g.backers s o ≡ own → revocation_at g w s (Ok (record { own = o; credential = a.event.credential; prior = a.event.prior; said = a.event.said })) ≡ ingest_message g w m
    unfolding accept_if
    accepted e o k = state_of _ (ingest-parts g w s a ∙ rw (h, ← e, k))
