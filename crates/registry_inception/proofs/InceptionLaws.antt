-- The inception of a registry over decoded attempts.
--     vcp-kind, other-kind   6
--     incept-kind        what an accepted attempt was
--     incept-refused, incept-accepted   the outcome of the bytes of an attempt, by what its checks come to
--     incept-within      an accepted inception leaves a state with the letters and bytes of its places
--     incept-lettered    an accepted attempt leaves a state with the letters and bytes of its places
use Prim.Native.Nat.{ℕ, ◌≤◌, min}
use mathlib.Core.Path.{◌≡◌, refl}
use mathlib.Core.List.{List}
use mathlib.Core.Bool.{true, ◌&&◌, false≢true}
use lib.Dec.{leb}
use lib.ListN.{length}
use Rattle.laws.specs.Number.{Bytes}
use Rattle.laws.proofs.Tests.{and_left}
use Rattle.codec_cursor.specs.Readers.{read_prefix}
use Rattle.codec.proofs.Loops.{length-times}
use Rattle.events_tel.specs.declared.Listed.{Listed}
use Rattle.events_tel.specs.TelEvents.{Event, event_as, view_event, members_in}
use Rattle.cesr.specs.Primitives.{said_at, read_matter}
use Rattle.events_tel.specs.Configs.{view_configs}
use Rattle.events_tel.specs.TelEvents.Event.{vcp, vrt, iss, rev, bis, brv}
use Rattle.events_tel.specs.declared.Kind.{Kind}
use Rattle.events_tel.specs.declared.Kind.TheVariants.{Vcp, Vrt, Iss, Rev, Bis, Brv}
use Rattle.events_tel.specs.declared.TelEvent.{TelEvent}
use Rattle.codec.specs.Layout.{all, good_event}
use Rattle.registry_authentication.specs.States.{view_registry, well_registry}
use Rattle.registry_authentication.specs.declared.RegistryState.{RegistryState}
use Rattle.registry_source.specs.Sources.{good_source}
use Rattle.registry_authentication.specs.Attempts.{Message, Decoded, good_anchors, good_evidence, good_message, view_attempt, decode_of}
use Rattle.registry_authentication.specs.Attempts.Decoded.{malformed, decoded}
use Rattle.registry_authentication.proofs.CodesAttempt.{decodes}
use Rattle.registry_signatures.specs.SignatureSections.{good_signature}
use Rattle.registry_authentication.specs.declared.Attempt.{Attempt}
use Rattle.registry_answer.specs.Answers.{accepts}
use Rattle.std.proofs.Common.{Ok, Err}
use Rattle.registry_error.specs.declared.RegistryRejection.{RegistryRejection}
use Rattle.registry_error.specs.declared.RegistryRejection.TheVariants.{NotRegistryInception}
use Rattle.registry_authentication.specs.Issuers.{issuer_kind}
use Rattle.registry_inception.specs.InceptionFolds.{vcp_answer, incept_event, incept_answer, incepted, incept_message, incept_decoded, incept_of, incepted_at, inception_at}
use Rattle.registry_inception.specs.declared.Inception.{Inception}
use Rattle.registry_answer.proofs.AnswerLaws.{or-second}
use Rattle.registry_inception.proofs.WellLaws.{Lettered, good-incepted, well-by-view}

pub good-event : (m : Message) → good_message m ≡ true → good_event m.event ≡ true
unfolding good_message
good-event m g =
    and_left (good_event m.event) ((leb (length m.source) 1 && all good_source m.source) && (good_anchors m.anchor && ((leb (length m.signatures) 64 && all good_signature m.signatures) && good_evidence m.evidence))) g

-- the kinds that a match on a vcp leaves over
pub other-kind : (s : List ℕ) (k : Kind) (e : TelEvent) (m : Message) → (k ≡ Vcp → ⊥) → Err NotRegistryInception ≡ incept_event (event_as s k e) m
other-kind s Vcp e m h = absurd (h refl)
other-kind s _ e m h = refl

pub vcp-kind : (s : List ℕ) (k : Kind) (e : TelEvent) (m : Message) → k ≡ Vcp → vcp_answer (said_at s e.said) (read_matter s e.issuer) e.toad.0 (view_configs e.configs) (members_in s e.backers) m ≡ incept_event (event_as s k e) m
vcp-kind s k e m h = rw h

incept-kind-by : (s : List ℕ) (k : Kind) (e : TelEvent) (m : Message) → accepts (incept_event (event_as s k e) m) ≡ true → k ≡ Vcp
incept-kind-by s Vcp e m h = refl
incept-kind-by s Vrt e m h = absurd (false≢true h)
incept-kind-by s Iss e m h = absurd (false≢true h)
incept-kind-by s Rev e m h = absurd (false≢true h)
incept-kind-by s Bis e m h = absurd (false≢true h)
incept-kind-by s Brv e m h = absurd (false≢true h)

pub incept-kind : (s : List ℕ) (a : Attempt) → accepts (incept_answer (view_attempt s a)) ≡ true → a.event.kind ≡ Vcp
unfolding incept_answer
incept-kind s a h =
    let m = view_attempt s a in
    incept-kind-by s a.event.kind a.event m (or-second (issuer_kind m.evidence) (incept_event m.event m) h)

incept-lettered-by : (e : Event) (m : Message) → good_event e ≡ true → accepts (incept_event e m) ≡ true → Lettered (incepted e)
incept-lettered-by (vcp said issuer toad configs backers) m g h = good-incepted said issuer toad configs backers g
incept-lettered-by (vrt said registry prior sn toad cuts additions) m g h = absurd (false≢true h)
incept-lettered-by (iss said credential registry) m g h = absurd (false≢true h)
incept-lettered-by (rev said credential registry prior) m g h = absurd (false≢true h)
incept-lettered-by (bis said credential registry seal) m g h = absurd (false≢true h)
incept-lettered-by (brv said credential prior seal) m g h = absurd (false≢true h)

pub incept-lettered : (m : Message) → good_message m ≡ true → accepts (incept_message m).answer ≡ true → Lettered (incept_message m).state
unfolding incept_message incept_answer
incept-lettered m g h =
    let l = incept-lettered-by m.event m (good-event m g) (or-second (issuer_kind m.evidence) (incept_event m.event m) h) in
    rw h l

-- the outcome of bytes that are an attempt's
module _ (s : List ℕ) (a : Attempt) (v : decoded (view_attempt s a) ≡ decode_of s) where
  abbrev placed : Inception
  placed =
      record { said = a.event.said; issuer = a.event.issuer; toad = a.event.toad; configs = a.event.configs; backers = a.event.backers }

  placed-at : a.event.kind ≡ Vcp → incepted_at s placed ≡ incepted (view_event s a.event)
  unfolding incepted_at
  placed-at k = rw k

  pub incept-accepted : Ok tt ≡ incept_answer (view_attempt s a) → inception_at s (Ok placed) ≡ incept_of s
  unfolding incept_of incept_message
  incept-accepted e =
      rw (← v, ← e, placed-at (incept-kind s a (rw (← e) refl)))

  pub incept-refused : (r : RegistryRejection) → Err r ≡ incept_answer (view_attempt s a) → inception_at s (Err r) ≡ incept_of s
  unfolding incept_of incept_message
  incept-refused r e = rw (← v, ← e)

within_by : (s : List ℕ) (d : Decoded) → Bytes s → decode_of s ≡ d → accepts (incept_decoded d).answer ≡ true → Lettered (incept_decoded d).state
within_by s malformed b e h = absurd (false≢true h)
within_by s (decoded m) b e h = incept-lettered m ((decodes s m b).0 e).1 h

pub incept-within : (s : List ℕ) → Bytes s → accepts (incept_of s).answer ≡ true → Lettered (incept_of s).state
unfolding incept_of
incept-within s b h = within_by s (decode_of s) b refl h

pub within-outcome : (s : List ℕ) → Bytes s → (x : RegistryState) → record { answer = Ok tt; state = view_registry x } ≡ incept_of s → x.configs.count ≤ 8 → x.backers.count ≤ 16 → well_registry x ≡ true
within-outcome s b x e c k =
    let h : accepts (incept_of s).answer ≡ true = rw (← e) refl in
    well-by-view x c k (rw (← e) at (incept-within s b h))

-- a list that stays in the bytes has as many as are counted
pub listed-size : (s : List ℕ) (l : Listed) → length (members_in s l) ≡ min l.count 16
unfolding members_in
listed-size s l = length-times read_prefix s l.start (min l.count 16)
