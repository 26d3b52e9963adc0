-- The saids of an event that was read have the letters of saids, in bytes and in any other list of numbers.
--     Gives            a reader that has not stopped had not stopped before, and gives a value with a property
--     Lettered         the letters of an event
--     event-lettered   the law
use Prim.Native.Nat.{ℕ}
use mathlib.Core.Path.{◌≡◌, refl}
use mathlib.Core.Bool.{Bool, true, false, cond, ◌&&◌}
use mathlib.Core.List.{List}
use native.Mathlib.Omega.{arith}
use lib.Dec.{eqb}
use lib.ListN.{length}
use Rattle.laws.proofs.Tests.{and_left}
use Rattle.cesr.specs.Primitives.{is_said, read_matter}
use Rattle.events_tel.specs.TelEvents.{Event}
use Rattle.events_tel.specs.TelEvents.Event.{vcp, vrt, iss, rev, bis, brv}
use Rattle.codec_cursor.specs.declared.Cursor.{Cursor}
use Rattle.codec_cursor.specs.Readers.{Reader, starting, need, read_byte, read_if, read_said, counted, mapped, both, after, ended}
use Rattle.codec_cursor.specs.declared.Read.{Read}
use Rattle.codec.specs.Events.{vcp_of, vrt_of, iss_of, rev_of, bis_of, brv_of, read_seal, read_vcp, read_vrt, read_iss, read_rev, read_bis, read_brv, read_kind, read_event}
use Rattle.codec_laws.proofs.Stands.{passed}
use Rattle.codec_laws.proofs.Sticky.{Sticky, sticky-both, sticky-byte, sticky-number, sticky-said, sticky-identifier, sticky-counted, sticky-after, sticky-ended, sticky-toad, sticky-configs, sticky-prefixes, sticky-seal}
use Rattle.registry_laws.specs.Attempts.{Message, decode_of, message_of, read_message}
use Rattle.registry_laws.specs.Attempts.Decoded.{malformed, decoded}
use Rattle.registry_laws.proofs.StickyAttempt.{sticky-sections}

record Told {A : Type 0} (P : A → Type 0) (c : Cursor) (r : Read A) : Type 0 where
  ok : c.ok ≡ true
  value : P r.value

record Gives {A : Type 0} (p : Reader A) (P : A → Type 0) : Type 0 where
  told : (s : List ℕ) (c : Cursor) → (p s c).next.ok ≡ true → Told P c (p s c)

-- no property
abbrev Any : {A : Type 0} → A → Type 0
Any x = Unit {0}

gives-any : {A : Type 0} {p : Reader A} → Sticky p → Gives p Any
gives-any k = record { told = λ s c e. record { ok = k.before s c e; value = tt } }

gives_both : {A B : Type 0} {p : Reader A} {q : Reader B} {P : A → Type 0} {Q : B → Type 0} → Gives p P → Gives q Q → Gives (both p q) (λ t. P t.0 × Q t.1)
gives_both {A} {B} {p} {q} {P} {Q} g h = record {
  told = λ s c e.
      let b = h.told s (p s c).next e in
      let a = g.told s c b.ok in
      record { ok = a.ok; value = (a.value, b.value) };
}

gives-mapped : {A B : Type 0} {p : Reader A} {P : A → Type 0} (f : A → B) (Q : B → Type 0) → ((x : A) → P x → Q (f x)) → Gives p P → Gives (mapped f p) Q
gives-mapped {A} {B} {p} {P} f Q w g = record { told = λ s c e. let a = g.told s c e in record { ok = a.ok; value = w (p s c).value a.value } }

gives-said : Gives read_said (λ d. is_said d.0 ≡ true)
unfolding read_said read_if
gives-said = record { told = λ s c e. record { ok = sticky-said.before s c e; value = (passed _ (is_said (read_matter s c.at)) e).test } }

gives_after : {A : Type 0} {p : Reader A} {P : A → Type 0} (n : ℕ) → Gives p P → Gives (after n p) P
gives_after {A} {p} {P} n g = record {
  told = λ s c e. let a = g.told s (counted n s c) e in record { ok = sticky-counted n s c a.ok; value = a.value };
}

gives-ended : {A : Type 0} {p : Reader A} {P : A → Type 0} (n : ℕ) → Gives p P → Gives (ended p n) P
gives-ended {A} {p} {P} n g = record {
  told = λ s c e. let a = g.told s c (sticky-counted n s (p s c).next e) in record { ok = a.ok; value = a.value };
}

-- a reader by a test
gives-either : {A : Type 0} {P : A → Type 0} (c : Cursor) (x y : Read A) (t : Bool) → (x.next.ok ≡ true → Told P c x) → (y.next.ok ≡ true → Told P c y) → (cond t x y).next.ok ≡ true → Told P c (cond t x y)
gives-either c x y true h k e = h e
gives-either c x y false h k e = k e

-- the saids of an event of a credential that a row takes
abbrev pub Lettered : Event → Type 0
Lettered (vcp said issuer toad configs backers) = Unit {0}
Lettered (vrt said registry prior sn toad cuts additions) = Unit {0}
Lettered (iss said credential registry) = (is_said said.0 ≡ true) × (is_said credential.0 ≡ true) × (is_said registry.0 ≡ true)
Lettered (rev said credential registry prior) = is_said said.0 ≡ true
Lettered (bis said credential registry seal) = (is_said said.0 ≡ true) × (is_said credential.0 ≡ true) × (is_said registry.0 ≡ true)
Lettered (brv said credential prior seal) = is_said said.0 ≡ true

gives-vcp : Gives read_vcp Lettered
unfolding read_vcp
gives-vcp =
    gives-mapped vcp_of Lettered (λ x h. tt)
    (gives-any (sticky-after 2 (sticky-both sticky-said (sticky-both sticky-identifier (sticky-after 1 (sticky-both sticky-toad (sticky-both sticky-configs (sticky-ended 0 (sticky-ended 0 sticky-prefixes)))))))))

gives-vrt : Gives read_vrt Lettered
unfolding read_vrt
gives-vrt =
    gives-mapped vrt_of Lettered (λ x h. tt)
    (gives-any (sticky-after 3 (sticky-both sticky-said (sticky-both sticky-said (sticky-both sticky-said (sticky-after 2 (sticky-both sticky-number (sticky-both sticky-toad (sticky-after 0 (sticky-both sticky-prefixes (sticky-ended 0 sticky-prefixes)))))))))))

gives-iss : Gives read_iss Lettered
unfolding read_iss
gives-iss =
    gives-mapped iss_of Lettered (λ x h. (h.0, h.1.0, h.1.1))
    (gives_after 3 (gives_both gives-said (gives_both gives-said (gives-ended 0 (gives-ended 0 (gives-ended 0 (gives-ended 0 (gives-ended 0 gives-said))))))))

gives-rev : Gives read_rev Lettered
unfolding read_rev
gives-rev =
    gives-mapped rev_of Lettered (λ x h. h.0)
    (gives_after 4 (gives_both gives-said (gives_both gives-said (gives_both gives-said (gives-ended 0 (gives-ended 0 (gives-ended 0 (gives-ended 0 (gives-ended 0 gives-said)))))))))

-- the sections of a bis, and of a brv
gives-sealed : Gives (after 3 (both read_said (both read_said (both (ended (ended (ended (ended read_said 0) 0) 0) 0) (after 1 read_seal))))) (λ t. (is_said t.0.0 ≡ true) × ((is_said t.1.0.0 ≡ true) × ((is_said t.1.1.0.0 ≡ true) × Unit {0})))
gives-sealed =
    gives_after 3 (gives_both gives-said (gives_both gives-said (gives_both (gives-ended 0 (gives-ended 0 (gives-ended 0 (gives-ended 0 gives-said)))) (gives_after 1 (gives-any sticky-seal)))))

gives-bis : Gives read_bis Lettered
unfolding read_bis
gives-bis = gives-mapped bis_of Lettered (λ x h. (h.0, h.1.0, h.1.1.0)) gives-sealed

gives-brv : Gives read_brv Lettered
unfolding read_brv
gives-brv = gives-mapped brv_of Lettered (λ x h. h.0) gives-sealed

gives-kind : (k : ℕ) → Gives (read_kind k) Lettered
unfolding read_kind
gives-kind k = record {
  told = λ s c e.
      gives-either c _ _ (eqb k 1) (gives-vcp.told s c)
      (gives-either c _ _ (eqb k 2) (gives-vrt.told s c)
      (gives-either c _ _ (eqb k 3) (gives-iss.told s c)
      (gives-either c _ _ (eqb k 4) (gives-rev.told s c)
      (gives-either c _ _ (eqb k 5) (gives-bis.told s c)
      (λ h. let a = gives-brv.told s (need c (eqb k 6)) h in record { ok = (passed c (eqb k 6) a.ok).ok; value = a.value }))))) e;
}

gives-event : Gives read_event Lettered
unfolding read_event
gives-event = record {
  told = λ s c e.
      let a = (gives-kind (read_byte s c).value).told s (read_byte s c).next e in
      record { ok = sticky-byte.before s c a.ok; value = a.value };
}

gives-message : Gives read_message (λ m. Lettered m.event)
unfolding read_message
gives-message = gives-mapped message_of (λ m. Lettered m.event) (λ x h. h.0) (gives_both gives-event (gives-any sticky-sections))

-- The event of an attempt that was decoded has these letters.
pub event-lettered : (s : List ℕ) (m : Message) → decode_of s ≡ decoded m → Lettered m.event
unfolding decode_of
event-lettered s m e = go ((read_message s starting).next.ok && eqb (read_message s starting).next.at (length s)) refl e
  where
    same : (a b : Message) → decoded a ≡ decoded b → a ≡ b
    same a b q = cc

    go : (t : Bool) → ((read_message s starting).next.ok && eqb (read_message s starting).next.at (length s)) ≡ t → cond t (decoded (read_message s starting).value) malformed ≡ decoded m → Lettered m.event
    go true h q =
        let w = (gives-message.told s starting (and_left (read_message s starting).next.ok (eqb (read_message s starting).next.at (length s)) h)).value in
        rw (← same _ _ q) w
    go false h q = let z : ◌≡◌ {A = ℕ} 0 1 = cc in absurd (omega arith)
