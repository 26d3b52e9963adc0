-- The rotations of a registry over decoded attempts.
--     count-after                       how many members there are after a rotation
--     rotation-accepted, rotation-refused   the outcome of the bytes of an attempt, by what its checks come to
--     by-value                          the same of a state that is a value
--     rotation-fits                     an accepted rotation leaves at most 16 members
--     rotation-within                   and a state with the letters and bytes of its places where the state before it had
use Prim.Native.Nat.{ℕ, ◌+◌}
use mathlib.Core.Path.{◌≡◌, refl, sym, ap, subst, ◌∙◌}
use mathlib.Core.List.{List, [], ◌∷◌}
use mathlib.Core.Bool.{true, false≢true}
use lib.Dec.{leb}
use lib.ListN.{length, length-append}
use Rattle.laws.specs.Number.{Bytes}
use Rattle.cesr.specs.declared.Said.{Said}
use Rattle.cesr.specs.declared.BasicPrefix.{BasicPrefix}
use Rattle.cesr_sn.specs.declared.Sn.{Sn}
use Rattle.events_tel.specs.TelEvents.{Event, event_as, view_event, members_in}
use Rattle.events_tel.specs.TelEvents.Event.{vcp, vrt, iss, rev, bis, brv}
use Rattle.events_tel.specs.declared.Kind.{Kind}
use Rattle.events_tel.specs.declared.Kind.TheVariants.{Vcp, Vrt, Iss, Rev, Bis, Brv}
use Rattle.events_tel.specs.declared.TelEvent.{TelEvent}
use Rattle.codec.specs.Layout.{good_event}
use Rattle.registry_state.specs.States.{Registry, view_registry}
use Rattle.registry_state.specs.declared.RegistryState.{RegistryState}
use Rattle.registry_management.specs.Managements.{view_management}
use Rattle.registry_management.specs.declared.Management.{Management}
use Rattle.events.specs.Members.{view}
use Rattle.registry_backer.specs.Attempts.{Message, Decoded, view_attempt, decode_of}
use Rattle.registry_backer.specs.Attempts.Decoded.{malformed, decoded}
use Rattle.registry_backer.specs.declared.Attempt.{Attempt}
use Rattle.registry_backer.proofs.CodesAttempt.{decodes}
use Rattle.std.proofs.Common.{Result, Ok, Err}
use Rattle.registry_error.specs.Errors.{Answer}
use Rattle.registry_answer.specs.Answers.{accepts, first_of, or_else}
use Rattle.registry_answer.proofs.AnswerLaws.{or-second, passed}
use Rattle.registry_error.specs.declared.RegistryRejection.{RegistryRejection}
use Rattle.registry_error.specs.declared.RegistryRejection.TheVariants.{TooManyBackers}
use Rattle.registry_members.specs.Updated.{survivors, updated_members}
use Rattle.registry_inception.proofs.InceptionLaws.{good-event}
use Rattle.registry_inception.proofs.WellLaws.{Lettered}
use Rattle.registry.specs.RegistryFolds.{vrt_backers, vrt_answer, ingest_event, rotated, ingest_message, ingest_decoded, rotated_at, rotation_at}
use Rattle.registry.specs.declared.RotationRead.{RotationRead}
use Rattle.registry.proofs.WellLaws.{good-rotated}

pub count-after : (now cuts additions : List BasicPrefix) (n k : ℕ) → n ≡ length (survivors cuts now) → k ≡ length additions → length (updated_members now cuts additions) ≡ n + k
unfolding updated_members
count-after now cuts additions n k e f = rw (e, f) (length-append (survivors cuts now) additions)

rotated-kind : (g : Registry) (s : List ℕ) (k : Kind) (e : TelEvent) (m : Message) → accepts (ingest_event g (event_as s k e) m) ≡ true → k ≡ Vrt
rotated-kind g s Vcp e m h = absurd (false≢true h)
rotated-kind g s Vrt e m h = refl
rotated-kind g s Iss e m h = absurd (false≢true h)
rotated-kind g s Rev e m h = absurd (false≢true h)
rotated-kind g s Bis e m h = absurd (false≢true h)
rotated-kind g s Brv e m h = absurd (false≢true h)

-- the outcome of bytes that are an attempt's
module _ (g : Registry) (s : List ℕ) (a : Attempt) (v : decoded (view_attempt s a) ≡ decode_of s) where
  abbrev placed : RotationRead
  placed =
      record { sn = a.event.sn; latest = a.event.said; toad = a.event.toad; cuts = a.event.backers; additions = a.event.additions }

  placed-at : a.event.kind ≡ Vrt → rotated_at g s placed ≡ rotated g (view_event s a.event)
  unfolding rotated_at
  placed-at k = sym (ap (λ (q : Kind). rotated g (event_as s q a.event)) k)

  pub rotation-accepted : Ok tt ≡ ingest_event g (view_event s a.event) (view_attempt s a) → rotation_at g s (Ok placed) ≡ ingest_decoded g (decode_of s)
  unfolding ingest_message
  rotation-accepted e =
      rw (← v, ← e, placed-at (rotated-kind g s a.event.kind a.event (view_attempt s a) (rw (← e) refl)))

  pub rotation-refused : (r : RegistryRejection) → Err r ≡ ingest_event g (view_event s a.event) (view_attempt s a) → rotation_at g s (Err r) ≡ ingest_decoded g (decode_of s)
  unfolding ingest_message
  rotation-refused r e = rw (← v, ← e)

-- the same of a state that is a value
pub by-value : (m : Management) (l : List BasicPrefix) (g : RegistryState) (s : List ℕ) (r : Result RotationRead RegistryRejection) → l ≡ view g.backers → view_management m (view g.backers) ≡ view_registry g → rotation_at (view_management m l) s r ≡ ingest_decoded (view_management m l) (decode_of s) → rotation_at (view_registry g) s r ≡ ingest_decoded (view_registry g) (decode_of s)
by-value m l g s r e f h =
    subst (λ (v : Registry). rotation_at v s r ≡ ingest_decoded v (decode_of s)) (ap (view_management m) e ∙ f) h

-- the members after an accepted vrt are at most 16
third : (u v w : Answer) (l : List Answer) → accepts (first_of (u ∷ v ∷ w ∷ l)) ≡ true → accepts w ≡ true
unfolding first_of
third (Ok u) (Ok v) (Ok w) l h = refl
third (Ok u) (Ok v) (Err r) l h = absurd (false≢true h)
third (Ok u) (Err r) w l h = absurd (false≢true h)
third (Err r) v w l h = absurd (false≢true h)

sixth : (u v w x y z : Answer) → accepts (first_of (u ∷ v ∷ w ∷ x ∷ y ∷ z ∷ [])) ≡ true → accepts z ≡ true
unfolding first_of
sixth u v w x y z h =
    let l = x ∷ y ∷ z ∷ [] in
    third x y z [] (or-second w (first_of l) (or-second v (or_else w (first_of l)) (or-second u (or_else v (or_else w (first_of l))) h)))

vrt-fits : (g : Registry) (said registry prior : Said) (sn : Sn) (toad : ℕ) (cuts additions : List BasicPrefix) (m : Message) → accepts (vrt_answer g said registry prior sn toad cuts additions m) ≡ true → leb (length (updated_members g.backers cuts additions)) 16 ≡ true
unfolding vrt_answer vrt_backers
vrt-fits g said registry prior sn toad cuts additions m h = passed _ TooManyBackers (third _ _ _ _ (sixth _ _ _ _ _ _ h))

fits-event : (g : Registry) (e : Event) (m : Message) → accepts (ingest_event g e m) ≡ true → leb (length (rotated g e).backers) 16 ≡ true
fits-event g (vcp said issuer toad configs backers) m h = absurd (false≢true h)
fits-event g (vrt said registry prior sn toad cuts additions) m h = vrt-fits g said registry prior sn toad cuts additions m h
fits-event g (iss said credential registry) m h = absurd (false≢true h)
fits-event g (rev said credential registry prior) m h = absurd (false≢true h)
fits-event g (bis said credential registry seal) m h = absurd (false≢true h)
fits-event g (brv said credential prior seal) m h = absurd (false≢true h)

fits_by : (g : Registry) (d : Decoded) → accepts (ingest_decoded g d).answer ≡ true → leb (length (ingest_decoded g d).state.backers) 16 ≡ true
unfolding ingest_message
fits_by g malformed h = absurd (false≢true h)
fits_by g (decoded m) h = rw h (fits-event g m.event m h)

pub rotation-fits : (g : Registry) (s : List ℕ) (r : RotationRead) → rotation_at g s (Ok r) ≡ ingest_decoded g (decode_of s) → leb (length (updated_members g.backers (members_in s r.cuts) (members_in s r.additions))) 16 ≡ true
unfolding rotated_at
rotation-fits g s r e =
    let h : accepts (ingest_decoded g (decode_of s)).answer ≡ true = rw (← e) refl in
    rw (← e) at (fits_by g (decode_of s) h)

lettered-event : (g : Registry) (e : Event) (m : Message) → Lettered g → good_event e ≡ true → accepts (ingest_event g e m) ≡ true → Lettered (rotated g e)
lettered-event g (vcp said issuer toad configs backers) m l k h = absurd (false≢true h)
lettered-event g (vrt said registry prior sn toad cuts additions) m l k h = good-rotated g said registry prior sn toad cuts additions l k
lettered-event g (iss said credential registry) m l k h = absurd (false≢true h)
lettered-event g (rev said credential registry prior) m l k h = absurd (false≢true h)
lettered-event g (bis said credential registry seal) m l k h = absurd (false≢true h)
lettered-event g (brv said credential prior seal) m l k h = absurd (false≢true h)

within_by : (g : Registry) (s : List ℕ) (d : Decoded) → Lettered g → Bytes s → decode_of s ≡ d → accepts (ingest_decoded g d).answer ≡ true → Lettered (ingest_decoded g d).state
unfolding ingest_message
within_by g s malformed l b e h = absurd (false≢true h)
within_by g s (decoded m) l b e h = rw h (lettered-event g m.event m l (good-event m ((decodes s m b).0 e).1) h)

pub rotation-within : (g : Registry) (s : List ℕ) (r : RotationRead) → Lettered g → Bytes s → rotation_at g s (Ok r) ≡ ingest_decoded g (decode_of s) → Lettered (rotated_at g s r)
rotation-within g s r l b e =
    let h : accepts (ingest_decoded g (decode_of s)).answer ≡ true = rw (← e) refl in
    rw (← e) at (within_by g s (decode_of s) l b refl h)
