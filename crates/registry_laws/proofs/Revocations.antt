-- Laws of the revocation of a credential.
--     revocation-keeps     registry and credential stay
--     revocation-names     they are the pair that the event names
--     revocation-counts    the sn goes from 0 to 1
--     revocation-refused   a refusal leaves the state
use Prim.Native.Nat.{ℕ, ◌≤◌}
use mathlib.Core.Path.{◌≡◌, refl}
use mathlib.Core.List.{List, [], ◌∷◌}
use mathlib.Core.Bool.{Bool, true, false, cond, ◌&&◌, ◌||◌, false≢true}
use native.Mathlib.Omega.{arith}
use borrow.Author.Tests.{eqb-true, leb-true}
use lib.Dec.{eqb, leb}
use Rattle.laws.specs.Number.{Bytes}
use Rattle.laws.proofs.Tests.{and_left, and_right}
use Rattle.cesr_sn.specs.Numbers.{value}
use Rattle.cesr.specs.Primitives.{eq_matter, eq_said, is_basic, is_said}
use Rattle.cesr.specs.declared.Matter.{Matter}
use Rattle.cesr.specs.declared.Said.{Said}
use Rattle.cesr.proofs.Matters.{matter-eq, said-eq}
use Rattle.events_seal.specs.Identifiers.{matter_of}
use Rattle.events_tel.specs.TelEvents.{Event, sn_one}
use Rattle.events_tel.specs.TelEvents.Event.{vcp, vrt, iss, rev, bis, brv}
use Rattle.events_seal.specs.declared.Identifier.{Identifier}
use Rattle.events_seal.specs.declared.Identifier.TheVariants.{Basic, SelfAddressing}
use Rattle.events_seal.specs.declared.Seal.{Seal}
use Rattle.events_seal.specs.declared.Seal.TheVariants.{Digest, Root, Source, Event as EventSeal, Last, Back, Kind, Opaque}
use Rattle.codec.specs.Layout.{is_matter, good_said, good_prefix, good_identity, good_sn, good_seal, good_event}
use Rattle.registry_state.specs.States.{Registry, view_registry, well_registry}
use Rattle.registry_state_credential.specs.CredentialStates.{well_credential}
use Rattle.registry_state.specs.declared.RegistryState.{RegistryState}
use Rattle.registry_state_credential.specs.declared.CredentialState.{CredentialState}
use Rattle.registry_credential_state.specs.Attempts.{Message, Decoded, decode_of}
use Rattle.registry_credential_state.specs.Attempts.Decoded.{malformed, decoded}
use Rattle.registry_credential_state.proofs.CodesAttempt.{decodes}
use Rattle.registry_answer.specs.Answers.{accepts, accept_if}
use Rattle.std.proofs.Common.{Err}
use Rattle.registry_error.specs.declared.RegistryRejection.TheVariants.{Malformed, InconsistentRegistry, InconsistentCredential}
use Rattle.registry_credential_state.specs.Backers.{names_registry}
use Rattle.registry_credential_state.specs.IssueFolds.{Outcome}
use Rattle.registry_credential_state.specs.Transitions.{transition}
use Rattle.registry_credential_state.specs.CredentialFolds.{rev_answer, brv_answer, ingest_event, ingest_answer, revoked, ingest_message, ingest_decoded, ingest_of}
use Rattle.registry.specs.Sequence.{next_sn}
use Rattle.registry_answer.proofs.AnswerLaws.{or-first, or-second, passed}
use Rattle.registry.proofs.InceptionLaws.{good-event}
use Rattle.registry.proofs.WellLaws.{well-view}
use Rattle.registry_laws.specs.Pairs.{Pair, pair_under, pair_in, pair_of, pair_decoded, pair_of_bytes, key_of}
use Rattle.registry_laws.proofs.Chains.{all-accept}
use Rattle.registry_laws.proofs.Numbers.{behind}

-- A revocation, accepted or refused, keeps registry and credential.
pub revocation-keeps : (g : Registry) (w : CredentialState) (m : Message) → key_of (ingest_message g w m).state ≡ key_of w
unfolding ingest_message
revocation-keeps g w m = go (accepts (ingest_answer g w m))
  where
    go : (t : Bool) → key_of (cond t (revoked w m.event) w) ≡ key_of w
    go true = refl
    go false = refl

-- no letter is a basic prefix's and a said's
roles-apart : (m : Matter) → is_basic m ≡ true → is_said m ≡ true → ⊥
unfolding is_basic is_said
roles-apart m b h = go (eqb m.code 66) refl b
  where
    low : 69 ≤ m.code
    low = leb-true 69 m.code (and_left (leb 69 m.code) (leb m.code 73) h)

    go : (t : Bool) → eqb m.code 66 ≡ t → (t || eqb m.code 68) ≡ true → ⊥
    go true e f = omega (arith, eqb-true m.code 66 e, low)
    go false e f = omega (arith, eqb-true m.code 68 f, low)

-- an own seal that names the registry names it by a said
identifier-names : (i : Identifier) (id credential : Said) → good_identity i ≡ true → is_said id.0 ≡ true → eq_matter (matter_of i) id.0 ≡ true → ◌≡◌ {A = List Pair} (pair_under i credential) (record { registry = id; credential = credential } ∷ [])
unfolding good_prefix
identifier-names (Basic p) id credential k l h =
    absurd (roles-apart p.0 (and_left (is_basic p.0) (is_matter p.0) k) (rw (matter-eq p.0 id.0 h) l))
identifier-names (SelfAddressing d) id credential k l h = rw (said-eq d id h)

seal-names : (seal : Seal) (id credential : Said) → good_seal seal ≡ true → is_said id.0 ≡ true → names_registry seal id ≡ true → ◌≡◌ {A = List Pair} (pair_in seal credential) (record { registry = id; credential = credential } ∷ [])
seal-names Digest id credential k l h = absurd (false≢true h)
seal-names Root id credential k l h = absurd (false≢true h)
seal-names Source id credential k l h = absurd (false≢true h)
seal-names (EventSeal i s d) id credential k l h = identifier-names i id credential (and_left (good_identity i) (good_sn s && good_said d) k) l h
seal-names Last id credential k l h = absurd (false≢true h)
seal-names Back id credential k l h = absurd (false≢true h)
seal-names Kind id credential k l h = absurd (false≢true h)
seal-names Opaque id credential k l h = absurd (false≢true h)

-- the checks of the last part of a chain: the credential is the held state's, and its sn comes behind
held : (w : CredentialState) (credential prior : Said) → accepts (transition w credential prior) ≡ true → (credential ≡ w.credential) × (accepts (next_sn w.sn sn_one) ≡ true)
unfolding transition
held w credential prior h =
    let t = all-accept _ h in
    (said-eq credential w.credential (passed (eq_said credential w.credential) InconsistentCredential t.0), t.1.0)

event-revokes : (g : Registry) (w : CredentialState) (e : Event) (m : Message) → accepts (ingest_event g w e m) ≡ true → (good_event e ≡ true → is_said g.id.0 ≡ true → pair_of e ≡ record { registry = g.id; credential = w.credential } ∷ []) × (accepts (next_sn w.sn sn_one) ≡ true)
unfolding rev_answer brv_answer
event-revokes g w (vcp said issuer toad configs backers) m h = absurd (false≢true h)
event-revokes g w (vrt said registry prior sn toad cuts additions) m h = absurd (false≢true h)
event-revokes g w (iss said credential registry) m h = absurd (false≢true h)
event-revokes g w (rev said credential registry prior) m h =
    let t = all-accept _ h in
    let k = held w credential prior t.1.1.1.0 in
    (λ good l. rw (said-eq registry g.id (passed (eq_said registry g.id) InconsistentRegistry t.0), k.0), k.1)
event-revokes g w (bis said credential registry seal) m h = absurd (false≢true h)
event-revokes g w (brv said credential prior seal) m h =
    let t = all-accept _ h in
    let k = held w credential prior t.1.1.1.1.0 in (
      λ good l.
          let s = and_right (good_said prior) (good_seal seal) (and_right (good_said credential) (good_said prior && good_seal seal) (and_right (good_said said) (good_said credential && (good_said prior && good_seal seal)) good)) in
          rw (← k.0) (seal-names seal g.id credential s l (passed (names_registry seal g.id) InconsistentRegistry t.0)),
      k.1,
    )

-- An accepted revocation is of the pair that its event names. The registry's id is a said, and the event is within its limits.
pub revocation-names : (g : Registry) (w : CredentialState) (m : Message) → is_said g.id.0 ≡ true → good_event m.event ≡ true → accepts (ingest_message g w m).answer ≡ true → pair_of m.event ≡ key_of (ingest_message g w m).state ∷ []
unfolding ingest_message ingest_answer
revocation-names g w m l k h =
    let first = accept_if (eq_said w.registry g.id) InconsistentRegistry in
    let rest = ingest_event g w m.event m in
    let same = said-eq w.registry g.id (passed (eq_said w.registry g.id) InconsistentRegistry (or-first first rest h)) in
    rw (h, same) ((event-revokes g w m.event m (or-second first rest h)).0 k l)

-- An accepted revocation takes the sn from 0, where it is within 128 bits, to 1.
pub revocation-counts : (g : Registry) (w : CredentialState) (m : Message) → good_sn w.sn ≡ true → accepts (ingest_message g w m).answer ≡ true → (value w.sn ≡ 0) × ((ingest_message g w m).state.sn ≡ sn_one)
unfolding ingest_message ingest_answer value
revocation-counts g w m k h =
    let next = (event-revokes g w m.event m (or-second (accept_if (eq_said w.registry g.id) InconsistentRegistry) (ingest_event g w m.event m) h)).1 in
    (omega (arith, behind w.sn sn_one k next), rw h)

-- A refused revocation leaves the state.
pub revocation-refused : (g : Registry) (w : CredentialState) (m : Message) → accepts (ingest_message g w m).answer ≡ false → (ingest_message g w m).state ≡ w
unfolding ingest_message
revocation-refused g w m h = rw h

-- what holds of the refusal 1, and of every message in bytes with a state that is let through, holds of all bytes
pub ingest-bytes : (P : Decoded → Outcome → Type 0) (g : RegistryState) (w : CredentialState) (s : List ℕ) → ((d : Decoded) → P d (record { answer = Err Malformed; state = w })) → ((m : Message) → well_registry g ≡ true → decode_of s ≡ decoded m → P (decoded m) (ingest_message (view_registry g) w m)) → P (decode_of s) (ingest_of g w s)
unfolding ingest_of
ingest-bytes P g w s bad good = go (well_registry g) refl (well_credential w) (decode_of s) refl
  where
    go : (t : Bool) → well_registry g ≡ t → (u : Bool) (d : Decoded) → decode_of s ≡ d → P d (cond (t && u) (ingest_decoded (view_registry g) w d) (record { answer = Err Malformed; state = w }))
    go true e true malformed f = bad malformed
    go true e true (decoded m) f = good m e f
    go true e false d f = bad d
    go false e u d f = bad d

-- All four over bytes.
pub revocation-keeps-bytes : (g : RegistryState) (w : CredentialState) (s : List ℕ) → key_of (ingest_of g w s).state ≡ key_of w
revocation-keeps-bytes g w s = ingest-bytes (λ d r. key_of r.state ≡ key_of w) g w s (λ d. refl) (λ m e f. revocation-keeps (view_registry g) w m)

pub revocation-names-bytes : (g : RegistryState) (w : CredentialState) (s : List ℕ) → Bytes s → accepts (ingest_of g w s).answer ≡ true → pair_of_bytes s ≡ key_of (ingest_of g w s).state ∷ []
revocation-names-bytes g w s b =
    ingest-bytes (λ d r. accepts r.answer ≡ true → pair_decoded d ≡ key_of r.state ∷ []) g w s (λ d h. absurd (false≢true h))
    (λ m e f. revocation-names (view_registry g) w m (well-view g e).1.id (good-event m ((decodes s m b).0 f).1))

pub revocation-counts-bytes : (g : RegistryState) (w : CredentialState) (s : List ℕ) → good_sn w.sn ≡ true → accepts (ingest_of g w s).answer ≡ true → (value w.sn ≡ 0) × ((ingest_of g w s).state.sn ≡ sn_one)
revocation-counts-bytes g w s k =
    ingest-bytes (λ d r. accepts r.answer ≡ true → (value w.sn ≡ 0) × (r.state.sn ≡ sn_one)) g w s (λ d h. absurd (false≢true h))
    (λ m e f. revocation-counts (view_registry g) w m k)

pub revocation-refused-bytes : (g : RegistryState) (w : CredentialState) (s : List ℕ) → accepts (ingest_of g w s).answer ≡ false → (ingest_of g w s).state ≡ w
revocation-refused-bytes g w s =
    ingest-bytes (λ d r. accepts r.answer ≡ false → r.state ≡ w) g w s (λ d h. refl) (λ m e f. revocation-refused (view_registry g) w m)
