-- The fold of a revocation in its parts.
--     ingest-parts     what the registry's own backers and the held state come to stands behind the rest
use Prim.Native.Nat.{ℕ}
use mathlib.Core.Path.{◌≡◌, refl, ap, ◌∙◌}
use mathlib.Core.List.{List, [], ◌∷◌}
use mathlib.Core.Bool.{not}
use Rattle.cesr.specs.Primitives.{said_at, eq_said}
use Rattle.cesr.specs.declared.Said.{Said}
use Rattle.events_tel.specs.TelEvents.{event_as, sn_one}
use Rattle.events_seal.specs.declared.Seal.{Seal}
use Rattle.events_tel.specs.declared.Kind.{Kind}
use Rattle.events_tel.specs.declared.Kind.TheVariants.{Vcp, Vrt, Iss, Rev, Bis, Brv}
use Rattle.events_tel.specs.declared.TelEvent.{TelEvent}
use Rattle.registry_state.specs.States.{Registry}
use Rattle.registry_state_credential.specs.declared.CredentialState.{CredentialState}
use Rattle.registry_backer.specs.Attempts.{Message, view_attempt}
use Rattle.registry_backer.specs.declared.Attempt.{Attempt}
use Rattle.registry_answer.specs.Answers.{accept_if, or_else, first_of}
use Rattle.registry_answer.proofs.AnswerLaws.{first-last}
use Rattle.registry_transition.specs.Transitions.{transition}
use Rattle.registry_authentication.specs.Issuers.{anchored, authenticate_issuer}
use Rattle.registry_backing.specs.Backings.{own_where}
use Rattle.registry_backer.specs.Backers.{is_backerless, names_registry, authenticate_backer, resolved_backer, asks_own}
use Rattle.registry_backer.proofs.AuthorityLaws.{in-two-parts}
use Rattle.registry_issue.proofs.OwnLaws.{in_parts, issuer-own}
use Rattle.registry_error.specs.Errors.{Answer}
use Rattle.std.proofs.Common.{Ok, Err}
use Rattle.registry_error.specs.declared.RegistryRejection.TheVariants.{InconsistentRegistry, SimpleEventOnBackerRegistry, BackedEventOnBackerlessRegistry}
use Rattle.registry_credential_state.specs.CredentialFolds.{rev_answer, brv_answer, ingest_event, ingest_answer}
use Rattle.registry_credential_state.specs.CredentialParts.{rev_resolved, brv_resolved, event_resolved}

module _ (g : Registry) (w : CredentialState) (said credential prior : Said) (m : Message) where
  abbrev own : Answer
  own = own_where (asks_own m.evidence) g.toad g.backers m.signatures

  abbrev last : Answer
  last = transition w credential prior

  last-two : first_of (own ∷ last ∷ []) ≡ or_else own last
  unfolding first_of
  last-two = ap (or_else own) (first-last last)

  rev-parts : (registry : Said) → rev_answer g w said credential registry prior m ≡ or_else (rev_resolved g said credential registry m) (or_else own last)
  unfolding rev_answer rev_resolved first_of
  rev-parts registry =
      let due = authenticate_issuer g.issuer credential sn_one said m in
      in_parts (accept_if (eq_said registry g.id) InconsistentRegistry ∷ accept_if (is_backerless g) SimpleEventOnBackerRegistry ∷ []) due due own (last ∷ []) (issuer-own g.toad g.backers m.signatures g.issuer credential sn_one said m)
      ∙ ap (or_else (rev_resolved g said credential registry m)) last-two

  brv-parts : (seal : Seal) → brv_answer g w said credential prior seal m ≡ or_else (brv_resolved g said credential seal m) (or_else own last)
  unfolding brv_answer brv_resolved first_of
  brv-parts seal =
      in_parts (accept_if (names_registry seal g.id) InconsistentRegistry ∷ accept_if (not (is_backerless g)) BackedEventOnBackerlessRegistry ∷ anchored g.issuer credential sn_one said m.source m.anchor ∷ []) (authenticate_backer g seal m.evidence m.signatures) (resolved_backer g seal m.evidence m.signatures) own (last ∷ []) (in-two-parts g seal m.evidence m.signatures)
      ∙ ap (or_else (brv_resolved g said credential seal m)) last-two

module _ (g : Registry) (w : CredentialState) (s : List ℕ) (e : TelEvent) (m : Message) where
  abbrev said : Said
  said = said_at s e.said

  abbrev credential : Said
  credential = said_at s e.credential

  abbrev prior : Said
  prior = said_at s e.prior

  abbrev rest : Answer
  rest = or_else (own g w said credential prior m) (last g w said credential prior m)

  event-parts : (k : Kind) → ingest_event g w (event_as s k e) m ≡ or_else (event_resolved g (event_as s k e) m) rest
  event-parts Vcp = refl
  event-parts Vrt = refl
  event-parts Iss = refl
  event-parts Rev = rev-parts g w said credential prior m (said_at s e.registry)
  event-parts Bis = refl
  event-parts Brv = brv-parts g w said credential prior m e.seal

joined : (x y z : Answer) → or_else x (or_else y z) ≡ or_else (or_else x y) z
joined (Ok u) y z = refl
joined (Err r) y z = refl

-- 10 of the held state, and the checks of the event but for the two
abbrev pub held_resolved : Registry → CredentialState → Message → Answer
held_resolved g w m = or_else (accept_if (eq_said w.registry g.id) InconsistentRegistry) (event_resolved g m.event m)

pub ingest-parts : (g : Registry) (w : CredentialState) (s : List ℕ) (a : Attempt) → ingest_answer g w (view_attempt s a) ≡ or_else (held_resolved g w (view_attempt s a)) (rest g w s a.event (view_attempt s a))
unfolding ingest_answer
ingest-parts g w s a =
    let here = accept_if (eq_said w.registry g.id) InconsistentRegistry in
    let m = view_attempt s a in
    ap (or_else here) (event-parts g w s a.event m a.event.kind) ∙ joined here (event_resolved g m.event m) (rest g w s a.event m)
