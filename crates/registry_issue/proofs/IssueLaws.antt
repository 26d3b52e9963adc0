-- The fold of a credential's issue over decoded attempts.
--     iss-.., bis-..     the checks made one after the other: the first that refuses is the answer
--     other-kind         8
--     refused, accepted  the outcome, with the registry's own backers behind the rest
use Prim.Native.Nat.{ℕ}
use mathlib.Core.Path.{◌≡◌, refl, sym, ap, ◌∙◌}
use mathlib.Core.List.{List}
use mathlib.Core.Bool.{true, false, cond, false≢true}
use Rattle.registry_management.specs.States.{Registry}
use Rattle.registry_state_credential.specs.CredentialStates.{no_credential}
use Rattle.registry_state_credential.specs.declared.CredentialState.{CredentialState}
use Rattle.registry_backer.specs.Attempts.{Message, view_attempt}
use Rattle.registry_backer.specs.declared.Attempt.{Attempt}
use Rattle.registry_answer.specs.Answers.{accepts, accept_if, or_else, first_of}
use Rattle.registry_answer.proofs.AnswerLaws.{or-first, passed, or-nothing, first-last}
use Rattle.registry_authentication.specs.Issuers.{anchored, authenticate_issuer}
use Rattle.registry_backing.specs.Backings.{own_where, own_among}
use Rattle.registry_backer.specs.Backers.{is_backerless, resolved_backer, asks_own}
use Rattle.cesr.specs.Primitives.{eq_said, said_at}
use Rattle.cesr.proofs.Matters.{said-eq}
use Rattle.cesr.specs.declared.Said.{Said}
use Rattle.events_tel.specs.TelEvents.{sn_zero, event_as}
use Rattle.events_tel.specs.declared.Kind.{Kind}
use Rattle.events_tel.specs.declared.Kind.TheVariants.{Vcp, Vrt, Iss, Rev, Bis, Brv}
use Rattle.events_tel.specs.declared.TelEvent.{TelEvent}
use Rattle.events_seal.specs.declared.Seal.{Seal}
use Rattle.registry_error.specs.Errors.{Answer}
use Rattle.std.proofs.Common.{Option, Ok, Err}
use Rattle.registry_error.specs.declared.RegistryRejection.TheVariants.{NotCredentialInception, InconsistentRegistry, SimpleEventOnBackerRegistry, BackedEventOnBackerlessRegistry}
use Rattle.registry_issue.specs.IssueFolds.{iss_answer, bis_answer, incept_event, issued, issue_at, incept_message}
use Rattle.registry_issue.specs.IssueParts.{bis_resolved, event_resolved}
use Rattle.registry_signatures.specs.declared.Counted.{Counted}
use Rattle.registry_error.specs.declared.RegistryRejection.{RegistryRejection}
use Rattle.registry_issue.proofs.OwnLaws.{incept-parts}

module _ (g : Registry) (said credential registry : Said) (m : Message) where
  pub iss-routed : eq_said registry g.id ≡ false → Err InconsistentRegistry ≡ iss_answer g said credential registry m
  unfolding iss_answer first_of accept_if
  iss-routed h = rw h

  pub iss-flavor : eq_said registry g.id ≡ true → is_backerless g ≡ false → Err SimpleEventOnBackerRegistry ≡ iss_answer g said credential registry m
  unfolding iss_answer first_of accept_if
  iss-flavor h k = rw (h, k)

  pub iss-issuer : eq_said registry g.id ≡ true → is_backerless g ≡ true → (x : Answer) → x ≡ authenticate_issuer g.issuer credential sn_zero said m → x ≡ iss_answer g said credential registry m
  unfolding iss_answer first_of accept_if
  iss-issuer h k x e = rw (h, k) (e ∙ sym (first-last (authenticate_issuer g.issuer credential sn_zero said m)))

  module _ (seal : Seal) where
    abbrev anchor : Answer
    anchor = anchored g.issuer credential sn_zero said m.source m.anchor

    abbrev authority : Answer
    authority = resolved_backer g seal m.evidence m.signatures

    pub bis-routed : eq_said registry g.id ≡ false → Err InconsistentRegistry ≡ bis_resolved g said credential registry seal m
    unfolding bis_resolved first_of accept_if
    bis-routed h = rw h

    pub bis-flavor : eq_said registry g.id ≡ true → is_backerless g ≡ true → Err BackedEventOnBackerlessRegistry ≡ bis_resolved g said credential registry seal m
    unfolding bis_resolved first_of accept_if
    bis-flavor h k = rw (h, k)

    pub bis-anchor : eq_said registry g.id ≡ true → is_backerless g ≡ false → (r : RegistryRejection) → anchor ≡ Err r → Err r ≡ bis_resolved g said credential registry seal m
    unfolding bis_resolved first_of accept_if
    bis-anchor h k r e = rw (h, k, e)

    pub bis-backed : eq_said registry g.id ≡ true → is_backerless g ≡ false → anchor ≡ Ok tt → authority ≡ bis_resolved g said credential registry seal m
    unfolding bis_resolved first_of accept_if
    bis-backed h k e = rw (h, k, e) (sym (or-nothing authority))

-- the kinds that a match on an iss and a bis leaves over
pub other-kind : (g : Registry) (s : List ℕ) (k : Kind) (e : TelEvent) (m : Message) → (k ≡ Iss → ⊥) → (k ≡ Bis → ⊥) → Err NotCredentialInception ≡ event_resolved g (event_as s k e) m
other-kind g s Iss e m h h' = absurd (h refl)
other-kind g s Bis e m h h' = absurd (h' refl)
other-kind g s _ e m h h' = refl

-- what is accepted is an iss or a bis, under the registry that it names
issue-of : (g : Registry) (s : List ℕ) (k : Kind) (e : TelEvent) (m : Message) → accepts (incept_event g (event_as s k e) m) ≡ true → record { registry = said_at s e.registry; credential = said_at s e.credential; sn = sn_zero; head = said_at s e.said } ≡ issued g.id (event_as s k e)
unfolding iss_answer bis_answer first_of
issue-of g s Vcp e m h = absurd (false≢true h)
issue-of g s Vrt e m h = absurd (false≢true h)
issue-of g s Iss e m h = let t = eq_said (said_at s e.registry) g.id in ap (λ (r : Said). record { registry = r; credential = said_at s e.credential; sn = sn_zero; head = said_at s e.said }) (said-eq _ _ (passed t InconsistentRegistry (or-first (accept_if t InconsistentRegistry) _ h)))
issue-of g s Rev e m h = absurd (false≢true h)
issue-of g s Bis e m h = let t = eq_said (said_at s e.registry) g.id in ap (λ (r : Said). record { registry = r; credential = said_at s e.credential; sn = sn_zero; head = said_at s e.said }) (said-eq _ _ (passed t InconsistentRegistry (or-first (accept_if t InconsistentRegistry) _ h)))
issue-of g s Brv e m h = absurd (false≢true h)

-- the outcome of an attempt that was decoded
module _ (g : Registry) (s : List ℕ) (a : Attempt) where
  abbrev m : Message
  m = view_attempt s a

  abbrev own : Answer
  own = own_where (asks_own m.evidence) g.toad g.backers m.signatures

  pub refused : (r : RegistryRejection) → Err r ≡ event_resolved g m.event m → record { answer = Err r; state = no_credential } ≡ incept_message g m
  unfolding incept_message
  refused r h = rw (incept-parts g m m.event, ← h)

  state_of : (x : Answer) → incept_event g m.event m ≡ x → (w : CredentialState) → (accepts (incept_event g m.event m) ≡ true → w ≡ issued g.id m.event) → record { answer = x; state = cond (accepts x) w no_credential } ≡ incept_message g m
  unfolding incept_message
  state_of (Ok u) n w h = rw (n, ← h (rw n))
  state_of (Err r) n w h = rw n

  pub accepted : Ok tt ≡ event_resolved g m.event m → (o : Option Counted) → own_among g.toad g.backers s o ≡ own → issue_at g s (Ok (record { own = o; said = a.event.said; credential = a.event.credential; registry = a.event.registry })) ≡ incept_message g m
  accepted h o k =
      state_of (own_among g.toad g.backers s o) (incept-parts g m m.event ∙ ap (λ (y : Answer). or_else y own) (sym h) ∙ sym k) _ (issue-of g s a.event.kind a.event m)
