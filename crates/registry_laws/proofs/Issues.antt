-- Laws of the issue of a credential.
--     issue-names     it leaves a state of the pair that the event names, at sn 0
--     issue-refused   a refusal leaves none
use Prim.Native.Nat.{ℕ}
use mathlib.Core.Path.{◌≡◌, refl}
use mathlib.Core.List.{List, [], ◌∷◌}
use mathlib.Core.Bool.{Bool, true, false, cond, false≢true}
use Rattle.cesr.specs.Primitives.{eq_said}
use Rattle.cesr.specs.declared.Said.{Said}
use Rattle.cesr.proofs.Matters.{said-eq}
use Rattle.events_tel.specs.TelEvents.{Event, sn_zero}
use Rattle.events_tel.specs.TelEvents.Event.{vcp, vrt, iss, rev, bis, brv}
use Rattle.registry_state.specs.States.{Registry, view_registry, well_registry}
use Rattle.registry_state_credential.specs.CredentialStates.{no_credential}
use Rattle.registry_state.specs.declared.RegistryState.{RegistryState}
use Rattle.registry_credential_state.specs.Attempts.{Message, Decoded, decode_of}
use Rattle.registry_credential_state.specs.Attempts.Decoded.{malformed, decoded}
use Rattle.registry_answer.specs.Answers.{accepts, accept_if}
use Rattle.std.proofs.Common.{Err}
use Rattle.registry_error.specs.declared.RegistryRejection.TheVariants.{Malformed, InconsistentRegistry}
use Rattle.registry_credential_state.specs.IssueFolds.{Outcome, iss_answer, bis_answer, incept_event, issued, incept_message, incept_decoded, incept_of}
use Rattle.registry_answer.proofs.AnswerLaws.{passed}
use Rattle.registry_laws.specs.Pairs.{Pair, pair_of, pair_decoded, pair_of_bytes, key_of}
use Rattle.registry_laws.proofs.Chains.{all-accept}

-- the registry that the event names is the one that is handed in
named : (registry id credential : Said) → accepts (accept_if (eq_said registry id) InconsistentRegistry) ≡ true → ◌≡◌ {A = List Pair} (record { registry = registry; credential = credential } ∷ []) (record { registry = id; credential = credential } ∷ [])
named registry id credential h = rw (said-eq registry id (passed (eq_said registry id) InconsistentRegistry h))

event-names : (g : Registry) (e : Event) (m : Message) → accepts (incept_event g e m) ≡ true → (pair_of e ≡ key_of (issued g.id e) ∷ []) × ((issued g.id e).sn ≡ sn_zero)
unfolding iss_answer bis_answer
event-names g (vcp said issuer toad configs backers) m h = absurd (false≢true h)
event-names g (vrt said registry prior sn toad cuts additions) m h = absurd (false≢true h)
event-names g (iss said credential registry) m h = (named registry g.id credential (all-accept _ h).0, refl)
event-names g (rev said credential registry prior) m h = absurd (false≢true h)
event-names g (bis said credential registry seal) m h = (named registry g.id credential (all-accept _ h).0, refl)
event-names g (brv said credential prior seal) m h = absurd (false≢true h)

-- An accepted issue leaves a state of the pair that its event names, at sn 0.
pub issue-names : (g : Registry) (m : Message) → accepts (incept_message g m).answer ≡ true → (pair_of m.event ≡ key_of (incept_message g m).state ∷ []) × ((incept_message g m).state.sn ≡ sn_zero)
unfolding incept_message
issue-names g m h = rw h (event-names g m.event m h)

-- A refused issue leaves no state.
pub issue-refused : (g : Registry) (m : Message) → accepts (incept_message g m).answer ≡ false → (incept_message g m).state ≡ no_credential
unfolding incept_message
issue-refused g m h = rw h

-- what holds of the refusal 1, and of every message, holds of all bytes
pub incept-bytes : (P : Decoded → Outcome → Type 0) (g : RegistryState) (s : List ℕ) → ((d : Decoded) → P d (record { answer = Err Malformed; state = no_credential })) → ((m : Message) → P (decoded m) (incept_message (view_registry g) m)) → P (decode_of s) (incept_of g s)
unfolding incept_of
incept-bytes P g s bad good = go (well_registry g) (decode_of s)
  where
    go : (t : Bool) (d : Decoded) → P d (cond t (incept_decoded (view_registry g) d) (record { answer = Err Malformed; state = no_credential }))
    go true malformed = bad malformed
    go true (decoded m) = good m
    go false d = bad d

-- Both over bytes.
pub issue-names-bytes : (g : RegistryState) (s : List ℕ) → accepts (incept_of g s).answer ≡ true → (pair_of_bytes s ≡ key_of (incept_of g s).state ∷ []) × ((incept_of g s).state.sn ≡ sn_zero)
issue-names-bytes g s =
    incept-bytes (λ d r. accepts r.answer ≡ true → (pair_decoded d ≡ key_of r.state ∷ []) × (r.state.sn ≡ sn_zero)) g s
    (λ d h. absurd (false≢true h)) (issue-names (view_registry g))

pub issue-refused-bytes : (g : RegistryState) (s : List ℕ) → accepts (incept_of g s).answer ≡ false → (incept_of g s).state ≡ no_credential
issue-refused-bytes g s =
    incept-bytes (λ d r. accepts r.answer ≡ false → r.state ≡ no_credential) g s (λ d h. refl) (issue-refused (view_registry g))
