-- Laws of the inception of a registry.
--     inception-sound     it leaves a state that the reading rules accept
--     inception-refused   a refusal leaves none
use Prim.Native.Nat.{ℕ}
use mathlib.Core.Path.{◌≡◌, refl}
use mathlib.Core.List.{List}
use mathlib.Core.Bool.{Bool, true, false, not, ◌&&◌, ◌||◌, false≢true}
use lib.Dec.{eqb}
use lib.ListN.{length}
use Rattle.cesr.specs.declared.Matter.{Matter}
use Rattle.cesr.specs.declared.Said.{Said}
use Rattle.cesr.specs.declared.BasicPrefix.{BasicPrefix}
use Rattle.events_tel.specs.Configs.{no_backers}
use Rattle.events.specs.Members.{check_members}
use Rattle.events_toad.specs.Toads.{exact_ok}
use Rattle.events_tel.specs.TelEvents.{Event}
use Rattle.events_tel.specs.TelEvents.Event.{vcp, vrt, iss, rev, bis, brv}
use Rattle.registry_state.specs.States.{no_registry}
use Rattle.registry_credential_state.specs.Attempts.{Message, Decoded, decode_of}
use Rattle.registry_credential_state.specs.Attempts.Decoded.{malformed, decoded}
use Rattle.registry_answer.specs.Answers.{accepts}
use Rattle.std.proofs.Common.{Err}
use Rattle.registry_error.specs.declared.RegistryRejection.TheVariants.{Malformed, NoBackersWithBackers, BackerThreshold}
use Rattle.registry_credential_state.specs.Issuers.{issuer_kind}
use Rattle.registry.specs.InceptionFolds.{Outcome, threshold_fits, vcp_answer, incept_event, incept_answer, incepted, incept_message, incept_decoded, incept_of}
use Rattle.registry_answer.proofs.AnswerLaws.{or-second, passed}
use Rattle.registry_laws.specs.ReadingRules.{sound_registry}
use Rattle.registry_laws.proofs.Chains.{all-accept, set-sound}

-- not the one without the other: either not the one, or the other
unless : (a b : Bool) → not (a && not b) ≡ true → (not a || b) ≡ true
unless true true h = refl
unless true false h = h
unless false b h = refl

vcp-sound : (said : Said) (issuer : Matter) (toad : ℕ) (configs : List ℕ) (backers : List BasicPrefix) (m : Message) → accepts (vcp_answer said issuer toad configs backers m) ≡ true → sound_registry (incepted (vcp said issuer toad configs backers)) ≡ true
unfolding vcp_answer threshold_fits sound_registry
vcp-sound said issuer toad configs backers m h =
    let t = all-accept _ h in
    let none = eqb (length backers) 0 in
    let bare = passed (not (no_backers configs && not none)) NoBackersWithBackers t.1.0 in
    let fits = passed (exact_ok toad (length backers)) BackerThreshold t.1.1.1.0 in
    rw (set-sound (check_members backers) t.1.1.0, fits, unless (no_backers configs) none bare)

event-sound : (e : Event) (m : Message) → accepts (incept_event e m) ≡ true → sound_registry (incepted e) ≡ true
event-sound (vcp said issuer toad configs backers) m h = vcp-sound said issuer toad configs backers m h
event-sound (vrt said registry prior sn toad cuts additions) m h = absurd (false≢true h)
event-sound (iss said credential registry) m h = absurd (false≢true h)
event-sound (rev said credential registry prior) m h = absurd (false≢true h)
event-sound (bis said credential registry seal) m h = absurd (false≢true h)
event-sound (brv said credential prior seal) m h = absurd (false≢true h)

-- An accepted inception leaves a state that the reading rules accept.
pub inception-sound : (m : Message) → accepts (incept_message m).answer ≡ true → sound_registry (incept_message m).state ≡ true
unfolding incept_message incept_answer
inception-sound m h = rw h (event-sound m.event m (or-second (issuer_kind m.evidence) (incept_event m.event m) h))

-- A refused inception leaves no state.
pub inception-refused : (m : Message) → accepts (incept_message m).answer ≡ false → (incept_message m).state ≡ no_registry
unfolding incept_message
inception-refused m h = rw h

-- what holds of malformed bytes, and of every message, holds of all bytes
pub incept-bytes : (P : Outcome → Type 0) (s : List ℕ) → P (record { answer = Err Malformed; state = no_registry }) → ((m : Message) → P (incept_message m)) → P (incept_of s)
unfolding incept_of
incept-bytes P s bad good = go (decode_of s)
  where
    go : (d : Decoded) → P (incept_decoded d)
    go malformed = bad
    go (decoded m) = good m

-- Both over bytes.
pub inception-sound-bytes : (s : List ℕ) → accepts (incept_of s).answer ≡ true → sound_registry (incept_of s).state ≡ true
inception-sound-bytes s =
    incept-bytes (λ r. accepts r.answer ≡ true → sound_registry r.state ≡ true) s (λ h. absurd (false≢true h)) inception-sound

pub inception-refused-bytes : (s : List ℕ) → accepts (incept_of s).answer ≡ false → (incept_of s).state ≡ no_registry
inception-refused-bytes s = incept-bytes (λ r. accepts r.answer ≡ false → r.state ≡ no_registry) s (λ h. refl) inception-refused
