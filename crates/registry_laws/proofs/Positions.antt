-- The position of refusal 24, in each fold: the element there breaks the rule that is named.
--     inception-offends                    in the backers of the vcp
--     rotation-offends                     in the registry's backers, the cuts and the additions
--     issue-offends, revocation-offends    in the authority's backers
use Prim.Native.Nat.{ℕ, ◌-◌, ◌^◌}
use mathlib.Core.Path.{◌≡◌, refl}
use mathlib.Core.List.{List, [], ◌∷◌}
use mathlib.Core.Bool.{◌&&◌}
use lib.Dec.{eqb}
use Rattle.cesr_sn.specs.Numbers.{value}
use Rattle.cesr_sn.specs.declared.Sn.{Sn}
use Rattle.cesr.specs.declared.Matter.{Matter}
use Rattle.cesr.specs.declared.Said.{Said}
use Rattle.cesr.specs.declared.BasicPrefix.{BasicPrefix}
use Rattle.events.specs.Members.{Lists, Offends, broken, check, or_else as else_set, check_members, check_deltas, check_current}
use Rattle.events_tel.specs.TelEvents.{Event, sn_one}
use Rattle.events_tel.specs.TelEvents.Event.{vcp, vrt, iss, rev, bis, brv}
use Rattle.events.specs.declared.Rule.{Rule}
use Rattle.events.specs.declared.Rule.TheVariants.{DuplicateBacker, DuplicateCut, DuplicateAddition, CutAddOverlap, RemovalNotCurrent, AdditionAlreadyPresent}
use Rattle.events_seal.specs.declared.Seal.{Seal}
use Rattle.events_seal.specs.declared.Seal.TheVariants.{Digest, Root, Source as SourceSeal, Event as EventSeal, Last, Back, Kind, Opaque}
use Rattle.registry_state.specs.States.{Registry, view_registry, well_registry}
use Rattle.registry_state_credential.specs.CredentialStates.{well_credential, no_credential}
use Rattle.registry_state.specs.declared.RegistryState.{RegistryState}
use Rattle.registry_state_credential.specs.declared.CredentialState.{CredentialState}
use Rattle.registry_credential_state.specs.Attempts.{Message, Anchor, Evidence, decode_of}
use Rattle.registry_signatures.specs.declared.Signature.{Signature}
use Rattle.registry_credential_state.specs.Attempts.Decoded.{decoded}
use Rattle.registry_credential_state.specs.Attempts.Evidence.{missing, issuer, backer, backer_at}
use Rattle.registry_source.specs.declared.Source.{Source}
use Rattle.registry_answer.specs.Answers.{accept_if, backer_set}
use Rattle.registry_error.specs.Errors.{Answer}
use Rattle.std.proofs.Common.{Err}
use Rattle.registry_error.specs.declared.RegistryRejection.TheVariants.{Malformed, SequenceNumberOverflow, OutOfOrder, BackerSet}
use Rattle.registry_credential_state.specs.Issuers.{issuer_kind, anchored, authenticate_issuer}
use Rattle.registry_credential_state.specs.Backings.{enough_receipts, backed_by}
use Rattle.registry_credential_state.specs.Backers.{resolved_by, resolved, authority, authenticate_backer}
use Rattle.registry.specs.InceptionFolds as inceptions
use Rattle.registry.specs.RegistryFolds as registries
use Rattle.registry.specs.Sequence.{sn_behind, next_sn}
use Rattle.registry.specs.InceptionFolds.{threshold_fits, vcp_answer}
use Rattle.registry.specs.RegistryFolds.{vrt_backers, vrt_answer}
use Rattle.registry_credential_state.specs.IssueFolds as issues
use Rattle.registry_credential_state.specs.CredentialFolds as credentials
use Rattle.registry_credential_state.specs.IssueFolds.{iss_answer, bis_answer}
use Rattle.registry_credential_state.specs.Transitions.{transition}
use Rattle.registry_credential_state.specs.CredentialFolds.{rev_answer, brv_answer}
use Rattle.registry_laws.specs.Positions.{alone, lists_of}
use Rattle.registry_laws.proofs.Placed.{Placed, other-placed, if-placed, or-placed, cond-placed, all_placed, check-placed, else-placed}

-- checks that have other refusals
module _ (s : Lists) where
  kind-placed : (e : Evidence) → Placed s (issuer_kind e)
  kind-placed missing = other-placed s _ refl
  kind-placed (issuer prefix anchor) = other-placed s _ refl
  kind-placed backer = other-placed s _ refl
  kind-placed (backer_at state) = other-placed s _ refl

  anchored-placed : (i : Matter) (id : Said) (sn : Sn) (said : Said) (l : List Source) (k : List Anchor) → Placed s (anchored i id sn said l k)
  anchored-placed i id sn said [] k = other-placed s _ refl
  anchored-placed i id sn said (x ∷ l) [] = other-placed s _ refl
  anchored-placed i id sn said (x ∷ l) (a ∷ k) = if-placed s _ _ refl

  issuer-placed : (i : Matter) (id : Said) (sn : Sn) (said : Said) (m : Message) → Placed s (authenticate_issuer i id sn said m)
  unfolding authenticate_issuer
  issuer-placed i id sn said m =
      all_placed s _ (kind-placed m.evidence, (if-placed s _ _ refl, (anchored-placed i id sn said m.source _, tt)))

  next-placed : (held sn : Sn) → Placed s (next_sn held sn)
  unfolding next_sn
  next-placed held sn =
      cond-placed s (λ (x : Answer). x) (eqb (value held) (2 ^ 128 - 1)) (Err SequenceNumberOverflow) (accept_if (eqb (value sn) (value (sn_behind held))) (OutOfOrder (sn_behind held) sn)) (other-placed s _ refl) (if-placed s _ _ refl)

  receipts-placed : (toad n : ℕ) (l : List Signature) → Placed s (enough_receipts toad n l)
  unfolding enough_receipts
  receipts-placed toad n l = if-placed s _ _ refl

  toad-placed : (toad n : ℕ) → Placed s (threshold_fits toad n)
  unfolding threshold_fits
  toad-placed toad n = if-placed s _ _ refl

  evidence-placed : (g : Registry) (n : Sn) (d : Said) (e : Evidence) → Placed s (resolved_by g n d e)
  evidence-placed g n d missing = other-placed s _ refl
  evidence-placed g n d (issuer prefix anchor) = other-placed s _ refl
  evidence-placed g n d backer = if-placed s _ _ refl
  evidence-placed g n d (backer_at h) = if-placed s _ _ refl

  seal-placed : (g : Registry) (seal : Seal) (e : Evidence) → Placed s (resolved g seal e)
  seal-placed g Digest e = other-placed s _ refl
  seal-placed g Root e = other-placed s _ refl
  seal-placed g SourceSeal e = other-placed s _ refl
  seal-placed g (EventSeal i n d) e = or-placed s _ _ (if-placed s _ _ refl) (evidence-placed g n d e)
  seal-placed g Last e = other-placed s _ refl
  seal-placed g Back e = other-placed s _ refl
  seal-placed g Kind e = other-placed s _ refl
  seal-placed g Opaque e = other-placed s _ refl

  transition-placed : (w : CredentialState) (credential prior : Said) → Placed s (transition w credential prior)
  unfolding transition
  transition-placed w credential prior =
      all_placed s _ (if-placed s _ _ refl, (next-placed w.sn sn_one, (if-placed s _ _ refl, tt)))

-- the rules on a list alone
members-placed : (backers : List BasicPrefix) → Placed (alone backers) (backer_set (check_members backers))
unfolding check_members
members-placed backers = check-placed (alone backers) DuplicateBacker

backer-placed : (g : Registry) (seal : Seal) (e : Evidence) (l : List Signature) → Placed (alone (authority g e).backers) (authenticate_backer g seal e l)
unfolding authenticate_backer backed_by
backer-placed g seal e l =
    let h = authority g e in
    let s = alone h.backers in
    all_placed s _ (seal-placed s g seal e, (all_placed s _ (members-placed h.backers, (if-placed s _ _ refl, (receipts-placed s h.toad _ l, tt))), tt))

vcp-placed : (said : Said) (prefix : Matter) (toad : ℕ) (configs : List ℕ) (backers : List BasicPrefix) (m : Message) → Placed (alone backers) (vcp_answer said prefix toad configs backers m)
unfolding vcp_answer
vcp-placed said prefix toad configs backers m =
    let s = alone backers in
    all_placed s _
    (if-placed s _ _ refl, (if-placed s _ _ refl, (members-placed backers, (toad-placed s toad _, (anchored-placed s prefix said _ said m.source m.anchor, (receipts-placed s toad _ m.signatures, tt))))))

lists-placed : (now : List BasicPrefix) (toad : ℕ) (cuts additions : List BasicPrefix) (l : List Signature) → Placed (record { backers = now; cuts = cuts; additions = additions }) (vrt_backers now toad cuts additions l)
unfolding vrt_backers check_deltas check_current
lists-placed now toad cuts additions l =
    let s : Lists = record { backers = now; cuts = cuts; additions = additions } in
    let repeats = check DuplicateAddition additions [] in
    let overlap = check CutAddOverlap cuts additions in
    let deltas = else-placed s (check DuplicateCut cuts []) (else_set repeats overlap) (check-placed s DuplicateCut) (else-placed s repeats overlap (check-placed s DuplicateAddition) (check-placed s CutAddOverlap)) in
    let current = else-placed s (check RemovalNotCurrent cuts now) (check AdditionAlreadyPresent additions now) (check-placed s RemovalNotCurrent) (check-placed s AdditionAlreadyPresent) in
    all_placed s _ (deltas, (current, (if-placed s _ _ refl, (toad-placed s toad _, (receipts-placed s toad _ l, tt)))))

module _ (m : Message) where
  incepts-placed : (e : Event) → Placed (lists_of [] e) (inceptions.incept_event e m)
  incepts-placed (vcp said prefix toad configs backers) = vcp-placed said prefix toad configs backers m
  incepts-placed (vrt said registry prior sn toad cuts additions) = other-placed _ _ refl
  incepts-placed (iss said credential registry) = other-placed _ _ refl
  incepts-placed (rev said credential registry prior) = other-placed _ _ refl
  incepts-placed (bis said credential registry seal) = other-placed _ _ refl
  incepts-placed (brv said credential prior seal) = other-placed _ _ refl

  -- Where an inception is refused with 24, the element at the position breaks the rule, in the list of the vcp.
  pub inception-offends : (rule : Rule) (i : ℕ) → (inceptions.incept_message m).answer ≡ Err (BackerSet rule i) → Offends (broken rule i) (lists_of [] m.event)
  unfolding inceptions.incept_message inceptions.incept_answer
  inception-offends =
      let s = lists_of [] m.event in
      or-placed s (issuer_kind m.evidence) (inceptions.incept_event m.event m) (kind-placed s m.evidence) (incepts-placed m.event)

module _ (g : Registry) (m : Message) where
  vrt-placed : (said registry prior : Said) (sn : Sn) (toad : ℕ) (cuts additions : List BasicPrefix) → Placed (record { backers = g.backers; cuts = cuts; additions = additions }) (vrt_answer g said registry prior sn toad cuts additions m)
  unfolding vrt_answer
  vrt-placed said registry prior sn toad cuts additions =
      let s : Lists = record { backers = g.backers; cuts = cuts; additions = additions } in
      all_placed s _
      (if-placed s _ _ refl, (if-placed s _ _ refl, (next-placed s g.sn sn, (if-placed s _ _ refl, (issuer-placed s g.issuer registry sn said m, (lists-placed g.backers toad cuts additions m.signatures, tt))))))

  rotates-placed : (e : Event) → Placed (lists_of g.backers e) (registries.ingest_event g e m)
  rotates-placed (vcp said prefix toad configs backers) = other-placed _ _ refl
  rotates-placed (vrt said registry prior sn toad cuts additions) = vrt-placed said registry prior sn toad cuts additions
  rotates-placed (iss said credential registry) = other-placed _ _ refl
  rotates-placed (rev said credential registry prior) = other-placed _ _ refl
  rotates-placed (bis said credential registry seal) = other-placed _ _ refl
  rotates-placed (brv said credential prior seal) = other-placed _ _ refl

  -- Where a rotation is refused with 24, the element at the position breaks the rule, in the lists of the registry and of the vrt.
  pub rotation-offends : (rule : Rule) (i : ℕ) → (registries.ingest_message g m).answer ≡ Err (BackerSet rule i) → Offends (broken rule i) (lists_of g.backers m.event)
  unfolding registries.ingest_message
  rotation-offends = rotates-placed m.event

  abbrev now : List BasicPrefix
  now = (authority g m.evidence).backers

  issues-placed : (e : Event) → Placed (lists_of now e) (issues.incept_event g e m)
  unfolding iss_answer bis_answer
  issues-placed (vcp said prefix toad configs backers) = other-placed _ _ refl
  issues-placed (vrt said registry prior sn toad cuts additions) = other-placed _ _ refl
  issues-placed (iss said credential registry) =
      let s = alone now in
      all_placed s _ (if-placed s _ _ refl, (if-placed s _ _ refl, (issuer-placed s g.issuer credential _ said m, tt)))
  issues-placed (rev said credential registry prior) = other-placed _ _ refl
  issues-placed (bis said credential registry seal) =
      let s = alone now in
      all_placed s _
      (if-placed s _ _ refl, (if-placed s _ _ refl, (anchored-placed s g.issuer credential _ said m.source m.anchor, (backer-placed g seal m.evidence m.signatures, tt))))
  issues-placed (brv said credential prior seal) = other-placed _ _ refl

  -- Where an issue is refused with 24, the element at the position breaks the rule, in the list of the authority.
  pub issue-offends : (rule : Rule) (i : ℕ) → (issues.incept_message g m).answer ≡ Err (BackerSet rule i) → Offends (broken rule i) (lists_of (authority g m.evidence).backers m.event)
  unfolding issues.incept_message
  issue-offends = issues-placed m.event

  revokes-placed : (w : CredentialState) (e : Event) → Placed (lists_of now e) (credentials.ingest_event g w e m)
  unfolding rev_answer brv_answer
  revokes-placed w (vcp said prefix toad configs backers) = other-placed _ _ refl
  revokes-placed w (vrt said registry prior sn toad cuts additions) = other-placed _ _ refl
  revokes-placed w (iss said credential registry) = other-placed _ _ refl
  revokes-placed w (rev said credential registry prior) =
      let s = alone now in
      all_placed s _
      (if-placed s _ _ refl, (if-placed s _ _ refl, (issuer-placed s g.issuer credential _ said m, (transition-placed s w credential prior, tt))))
  revokes-placed w (bis said credential registry seal) = other-placed _ _ refl
  revokes-placed w (brv said credential prior seal) =
      let s = alone now in
      all_placed s _
      (if-placed s _ _ refl, (if-placed s _ _ refl, (anchored-placed s g.issuer credential _ said m.source m.anchor, (backer-placed g seal m.evidence m.signatures, (transition-placed s w credential prior, tt)))))

  -- Where a revocation is refused with 24, the same holds.
  pub revocation-offends : (w : CredentialState) (rule : Rule) (i : ℕ) → (credentials.ingest_message g w m).answer ≡ Err (BackerSet rule i) → Offends (broken rule i) (lists_of (authority g m.evidence).backers m.event)
  unfolding credentials.ingest_message credentials.ingest_answer
  revocation-offends w =
      let s = lists_of now m.event in
      or-placed s _ (credentials.ingest_event g w m.event m) (if-placed s _ _ refl) (revokes-placed w m.event)

-- The same of bytes that hold a message.
module _ (s : List ℕ) (m : Message) (d : decode_of s ≡ decoded m) where
  pub inception-offends-bytes : (rule : Rule) (i : ℕ) → (inceptions.incept_of s).answer ≡ Err (BackerSet rule i) → Offends (broken rule i) (lists_of [] m.event)
  unfolding inceptions.incept_of
  inception-offends-bytes rule i h = inception-offends m rule i (rw d at h)

  pub rotation-offends-bytes : (g : RegistryState) (rule : Rule) (i : ℕ) → (registries.ingest_of g s).answer ≡ Err (BackerSet rule i) → Offends (broken rule i) (lists_of (view_registry g).backers m.event)
  unfolding registries.ingest_of
  rotation-offends-bytes g =
      let h = view_registry g in
      rw d
      (cond-placed _ (λ (r : inceptions.Outcome). r.answer) (well_registry g) (registries.ingest_message h m) (record { answer = Err Malformed; state = h }) (rotation-offends h m) (other-placed _ _ refl))

  pub issue-offends-bytes : (g : RegistryState) (rule : Rule) (i : ℕ) → (issues.incept_of g s).answer ≡ Err (BackerSet rule i) → Offends (broken rule i) (lists_of (authority (view_registry g) m.evidence).backers m.event)
  unfolding issues.incept_of
  issue-offends-bytes g =
      let h = view_registry g in
      rw d
      (cond-placed _ (λ (r : issues.Outcome). r.answer) (well_registry g) (issues.incept_message h m) (record { answer = Err Malformed; state = no_credential }) (issue-offends h m) (other-placed _ _ refl))

  pub revocation-offends-bytes : (g : RegistryState) (w : CredentialState) (rule : Rule) (i : ℕ) → (credentials.ingest_of g w s).answer ≡ Err (BackerSet rule i) → Offends (broken rule i) (lists_of (authority (view_registry g) m.evidence).backers m.event)
  unfolding credentials.ingest_of
  revocation-offends-bytes g w =
      let h = view_registry g in
      rw d
      (cond-placed _ (λ (r : issues.Outcome). r.answer) (well_registry g && well_credential w) (credentials.ingest_message h w m) (record { answer = Err Malformed; state = w }) (revocation-offends h m w) (other-placed _ _ refl))
