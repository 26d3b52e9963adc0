-- Laws of the rotations of a registry.
--     rotation-keeps     id, issuer and config stay
--     rotation-counts    the sn goes up by one
--     rotation-sound     from a state that the reading rules accept comes one that they accept
--     rotation-refused   a refusal leaves the state
use Prim.Native.Nat.{ℕ, ◌+◌}
use mathlib.Core.Path.{◌≡◌, refl}
use mathlib.Core.List.{List}
use mathlib.Core.Bool.{Bool, true, false, not, cond, ◌&&◌, ◌||◌, false≢true}
use lib.Dec.{eqb}
use lib.ListN.{length}
use Rattle.laws.proofs.Tests.{and_left}
use Rattle.cesr_sn.specs.Numbers.{value}
use Rattle.cesr_sn.specs.declared.Sn.{Sn}
use Rattle.cesr.specs.declared.Said.{Said}
use Rattle.cesr.specs.declared.BasicPrefix.{BasicPrefix}
use Rattle.events_tel.specs.Configs.{no_backers}
use Rattle.events.specs.Members.{check_members, check_deltas, check_current}
use Rattle.events_toad.specs.Toads.{exact_ok}
use Rattle.events_tel.specs.TelEvents.{Event}
use Rattle.events_tel.specs.TelEvents.Event.{vcp, vrt, iss, rev, bis, brv}
use Rattle.codec.specs.Layout.{good_sn}
use Rattle.registry_state.specs.States.{Registry, view_registry, well_registry}
use Rattle.registry_state.specs.declared.RegistryState.{RegistryState}
use Rattle.registry_credential_state.specs.Attempts.{Message, Decoded, decode_of}
use Rattle.registry_credential_state.specs.Attempts.Decoded.{malformed, decoded}
use Rattle.registry_answer.specs.Answers.{accepts, backer_set}
use Rattle.std.proofs.Common.{Err}
use Rattle.registry_error.specs.declared.RegistryRejection.TheVariants.{Malformed, RotationOnBackerlessRegistry, BackerThreshold}
use Rattle.registry_members.specs.Updated.{updated_members}
use Rattle.registry.specs.InceptionFolds.{Outcome, threshold_fits}
use Rattle.registry.specs.RegistryFolds.{vrt_backers, vrt_answer, ingest_event, rotated, ingest_message, ingest_decoded, ingest_of}
use Rattle.registry_answer.proofs.AnswerLaws.{passed}
use Rattle.registry_laws.specs.ReadingRules.{sound_registry}
use Rattle.registry_laws.specs.States.{OneRegistry}
use Rattle.registry_laws.proofs.Chains.{all-accept, set-sound}
use Rattle.registry_laws.proofs.Numbers.{behind}
use Rattle.registry_laws.proofs.Repeats.{updated-sound}

-- what holds of the state that every accepted vrt leaves holds of the state of every accepted event
module _ (g : Registry) (m : Message) (P : Registry → Type 0) (vrts : (said registry prior : Said) (sn : Sn) (toad : ℕ) (cuts additions : List BasicPrefix) → accepts (vrt_answer g said registry prior sn toad cuts additions m) ≡ true → P (rotated g (vrt said registry prior sn toad cuts additions))) where
  event-rotated : (e : Event) → accepts (ingest_event g e m) ≡ true → P (rotated g e)
  event-rotated (vcp said issuer toad configs backers) h = absurd (false≢true h)
  event-rotated (vrt said registry prior sn toad cuts additions) h = vrts said registry prior sn toad cuts additions h
  event-rotated (iss said credential registry) h = absurd (false≢true h)
  event-rotated (rev said credential registry prior) h = absurd (false≢true h)
  event-rotated (bis said credential registry seal) h = absurd (false≢true h)
  event-rotated (brv said credential prior seal) h = absurd (false≢true h)

  after-accepted : accepts (ingest_message g m).answer ≡ true → P (ingest_message g m).state
  unfolding ingest_message
  after-accepted h = rw h (event-rotated m.event h)

  -- and of the state behind any answer, where it holds of the state before
  after_any : P g → P (ingest_message g m).state
  unfolding ingest_message
  after_any p = go (accepts (ingest_event g m.event m)) refl
    where
      go : (t : Bool) → accepts (ingest_event g m.event m) ≡ t → P (cond t (rotated g m.event) g)
      go true h = event-rotated m.event h
      go false h = p

vrt-counts : (g : Registry) (m : Message) → good_sn g.sn ≡ true → (said registry prior : Said) (sn : Sn) (toad : ℕ) (cuts additions : List BasicPrefix) → accepts (vrt_answer g said registry prior sn toad cuts additions m) ≡ true → value sn ≡ value g.sn + 1
unfolding vrt_answer
vrt-counts g m k said registry prior sn toad cuts additions h = behind g.sn sn k (all-accept _ h).1.1.0

vrt-sound : (g : Registry) (m : Message) → sound_registry g ≡ true → (said registry prior : Said) (sn : Sn) (toad : ℕ) (cuts additions : List BasicPrefix) → accepts (vrt_answer g said registry prior sn toad cuts additions m) ≡ true → sound_registry (rotated g (vrt said registry prior sn toad cuts additions)) ≡ true
unfolding vrt_answer vrt_backers threshold_fits sound_registry
vrt-sound g m k said registry prior sn toad cuts additions h =
    let t = all-accept _ h in
    let b = all-accept _ t.1.1.1.1.1.0 in
    let now = updated_members g.backers cuts additions in
    let backed = passed (not (no_backers g.configs)) RotationOnBackerlessRegistry t.1.0 in
    let fits = passed (exact_ok toad (length now)) BackerThreshold b.1.1.1.0 in
    let before = set-sound (check_members g.backers) (and_left (accepts (backer_set (check_members g.backers))) (exact_ok g.toad (length g.backers) && (not (no_backers g.configs) || eqb (length g.backers) 0)) k) in
    let members = updated-sound g.backers cuts additions before (set-sound (check_deltas cuts additions) b.0) (set-sound (check_current g.backers cuts additions) b.1.0) in
    rw (members, fits, backed)

-- A rotation, accepted or refused, keeps id, issuer and config.
pub rotation-keeps : (g : Registry) (m : Message) → OneRegistry (ingest_message g m).state g
rotation-keeps g m =
    after_any g m (λ r. OneRegistry r g) (λ said registry prior sn toad cuts additions h. record { id = refl; issuer = refl; configs = refl }) (record { id = refl; issuer = refl; configs = refl })

-- An accepted rotation's sn is one more than the state's, where that is within 128 bits.
pub rotation-counts : (g : Registry) (m : Message) → good_sn g.sn ≡ true → accepts (ingest_message g m).answer ≡ true → value (ingest_message g m).state.sn ≡ value g.sn + 1
rotation-counts g m k = after-accepted g m (λ r. value r.sn ≡ value g.sn + 1) (vrt-counts g m k)

-- From a state that the reading rules accept a rotation, accepted or refused, leaves one that they accept.
pub rotation-sound : (g : Registry) (m : Message) → sound_registry g ≡ true → sound_registry (ingest_message g m).state ≡ true
rotation-sound g m k = after_any g m (λ r. sound_registry r ≡ true) (vrt-sound g m k) k

-- A refused rotation leaves the state.
pub rotation-refused : (g : Registry) (m : Message) → accepts (ingest_message g m).answer ≡ false → (ingest_message g m).state ≡ g
unfolding ingest_message
rotation-refused g m h = rw h

-- what holds of the refusal 1, and of every message, holds of all bytes
pub ingest-bytes : (P : Outcome → Type 0) (g : RegistryState) (s : List ℕ) → P (record { answer = Err Malformed; state = view_registry g }) → ((m : Message) → P (ingest_message (view_registry g) m)) → P (ingest_of g s)
unfolding ingest_of
ingest-bytes P g s bad good = go (well_registry g) (decode_of s)
  where
    go : (t : Bool) (d : Decoded) → P (cond t (ingest_decoded (view_registry g) d) (record { answer = Err Malformed; state = view_registry g }))
    go true malformed = bad
    go true (decoded m) = good m
    go false d = bad

-- All four over bytes.
pub rotation-keeps-bytes : (g : RegistryState) (s : List ℕ) → OneRegistry (ingest_of g s).state (view_registry g)
rotation-keeps-bytes g s =
    ingest-bytes (λ r. OneRegistry r.state (view_registry g)) g s (record { id = refl; issuer = refl; configs = refl }) (rotation-keeps (view_registry g))

pub rotation-counts-bytes : (g : RegistryState) (s : List ℕ) → good_sn g.sn ≡ true → accepts (ingest_of g s).answer ≡ true → value (ingest_of g s).state.sn ≡ value g.sn + 1
rotation-counts-bytes g s k =
    ingest-bytes (λ r. accepts r.answer ≡ true → value r.state.sn ≡ value g.sn + 1) g s (λ h. absurd (false≢true h)) (λ m. rotation-counts (view_registry g) m k)

pub rotation-sound-bytes : (g : RegistryState) (s : List ℕ) → sound_registry (view_registry g) ≡ true → sound_registry (ingest_of g s).state ≡ true
rotation-sound-bytes g s k = ingest-bytes (λ r. sound_registry r.state ≡ true) g s k (λ m. rotation-sound (view_registry g) m k)

pub rotation-refused-bytes : (g : RegistryState) (s : List ℕ) → accepts (ingest_of g s).answer ≡ false → (ingest_of g s).state ≡ view_registry g
rotation-refused-bytes g s =
    ingest-bytes (λ r. accepts r.answer ≡ false → r.state ≡ view_registry g) g s (λ h. refl) (rotation-refused (view_registry g))
