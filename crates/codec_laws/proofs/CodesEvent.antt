-- Readers and layouts agree, for events: the kind byte and sections 1 to 6.
--     codes-event     what `read_event` reads is exactly what `event_bytes` writes, within the limits
use Prim.Native.Nat.{ℕ, ◌+◌, ◌<◌}
use mathlib.Core.Path.{◌≡◌, refl, ap, sym, subst, ◌∙◌}
use mathlib.Core.List.{List, [], ◌∷◌, ◌++◌, append_assoc, append-nil}
use mathlib.Core.Bool.{Bool, true, false, cond, ◌&&◌}
use borrow.Author.Tests.{eqb-true}
use lib.Dec.{eqb, lit<}
use lib.ListN.{length}
use Rattle.laws.specs.Number.{digits, Bytes}
use Rattle.cesr_sn.specs.Numbers.{sn_bytes}
use Rattle.codec.specs.Primitives.{matter_bytes}
use Rattle.cesr_sn.specs.declared.Sn.{Sn}
use Rattle.codec.specs.declared.Matter.{Matter}
use Rattle.codec.specs.declared.Said.{Said}
use Rattle.codec.specs.declared.BasicPrefix.{BasicPrefix}
use Rattle.codec.specs.TelEvents.{Event}
use Rattle.codec.specs.TelEvents.Event.{vcp, vrt, iss, rev, bis, brv}
use Rattle.codec.specs.declared.Seal.{Seal}
use Rattle.codec.specs.declared.Cursor.{Cursor}
use Rattle.codec.specs.Layout.{joined, section_bytes, byte_bytes, said_bytes, prefix_bytes, seal_bytes, as_it_is, six_sections, sections_of, kind_byte, event_bytes, good_said, good_identifier, good_sn, good_toad, good_configs, good_prefixes, good_seal, good_event}
use Rattle.codec.specs.Readers.{placed, Reader, need, mapped, both, after, ended, read_byte, read_number, read_said, read_identifier}
use Rattle.codec.specs.declared.Read.{Read}
use Rattle.codec.specs.Events.{read_toad, read_configs, read_prefixes, read_seal, vcp_of, vrt_of, iss_of, rev_of, bis_of, brv_of, read_vcp, read_vrt, read_iss, read_rev, read_bis, read_brv, read_kind, read_event}
use Rattle.codec_laws.proofs.Stands.{Stands, passed}
use Rattle.codec_laws.proofs.Codes.{Told, Codes, led, leads, shift, mapped-is, codes-both, codes-after, codes-ended, codes-sn, codes-said, codes-identifier}
use Rattle.codec_laws.proofs.CodesSeal.{codes-toad, codes-configs, codes-prefixes, codes-seal}

-- what stands behind the kind byte
abbrev tail_bytes : Event → List ℕ
tail_bytes e =
    section_bytes matter_bytes (sections_of e).primitives
    ++ (section_bytes as_it_is (sections_of e).numbers
    ++ (section_bytes byte_bytes (sections_of e).configs
    ++ (section_bytes prefix_bytes (sections_of e).backers ++ (section_bytes prefix_bytes (sections_of e).additions ++ section_bytes seal_bytes (sections_of e).seals))))

-- a kind's sections, read as a tuple, are the event's
module _ {A : Type 0} (f : A → Event) (p : Reader A) (bytes : A → List ℕ) (good : A → Bool) (k : Codes p bytes good) (same : (x : A) → bytes x ≡ tail_bytes (f x)) (limits : (x : A) → good x ≡ good_event (f x)) where
  kind-sound : (s : List ℕ) (c : Cursor) → Bytes s → (mapped f p s c).next.ok ≡ true → Told tail_bytes good_event s c (mapped f p s c)
  kind-sound s c b h =
      let t = k.sound s c b h in
      let x = (p s c).value in
      record {
        ok = t.ok;
        stands = subst (λ (l : List ℕ). Stands s c.at l) (same x) t.stands;
        next = t.next ∙ ap (λ (l : List ℕ). placed (c.at + length l)) (same x);
        limits = sym (limits x) ∙ t.limits;
      }

  kind-complete : (s : List ℕ) (c : Cursor) (x : A) → c.ok ≡ true → Stands s c.at (tail_bytes (f x)) → good_event (f x) ≡ true → mapped f p s c ≡ record { value = f x; next = placed (c.at + length (tail_bytes (f x))) }
  kind-complete s c x o st g =
      let e = k.complete s c x o (subst (λ (l : List ℕ). Stands s c.at l) (sym (same x)) st) (limits x ∙ g) in
      mapped-is f p s c (placed (c.at + length (bytes x))) x e ∙ ap (λ (l : List ℕ). record { value = f x; next = placed (c.at + length l) }) (same x)

-- a section of nothing behind it
none : {A : Type 0} {p : Reader A} {bytes : A → List ℕ} {good : A → Bool} → Codes p bytes good → Codes (ended p 0) (λ x. bytes x ++ (0 ∷ [])) good
none k = codes-ended 0 (lit< tt) k

abbrev vcp_bytes : Said × (Matter × (ℕ × (List ℕ × List BasicPrefix))) → List ℕ
vcp_bytes t = 2 ∷ (said_bytes t.0 ++ (matter_bytes t.1.0 ++ (1 ∷ ((digits 16) t.1.1.0 ++ ((section_bytes byte_bytes) t.1.1.1.0 ++ (((section_bytes prefix_bytes) t.1.1.1.1 ++ (0 ∷ [])) ++ (0 ∷ [])))))))

abbrev vcp_good : Said × (Matter × (ℕ × (List ℕ × List BasicPrefix))) → Bool
vcp_good t = good_said t.0 && (good_identifier t.1.0 && (good_toad t.1.1.0 && (good_configs t.1.1.1.0 && (good_prefixes t.1.1.1.1))))

vcp-codes : Codes (after 2 (both read_said (both read_identifier (after 1 (both read_toad (both read_configs (ended (ended read_prefixes 0) 0))))))) vcp_bytes vcp_good
vcp-codes = codes-after 2 (lit< tt) (codes-both codes-said (codes-both codes-identifier (codes-after 1 (lit< tt) (codes-both codes-toad (codes-both codes-configs (none (none codes-prefixes)))))))

abbrev vrt_bytes : Said × (Said × (Said × (Sn × (ℕ × (List BasicPrefix × List BasicPrefix))))) → List ℕ
vrt_bytes t = 3 ∷ (said_bytes t.0 ++ (said_bytes t.1.0 ++ (said_bytes t.1.1.0 ++ (2 ∷ (sn_bytes t.1.1.1.0 ++ ((digits 16) t.1.1.1.1.0 ++ (0 ∷ ((section_bytes prefix_bytes) t.1.1.1.1.1.0 ++ ((section_bytes prefix_bytes) t.1.1.1.1.1.1 ++ (0 ∷ []))))))))))

abbrev vrt_good : Said × (Said × (Said × (Sn × (ℕ × (List BasicPrefix × List BasicPrefix))))) → Bool
vrt_good t = good_said t.0 && (good_said t.1.0 && (good_said t.1.1.0 && (good_sn t.1.1.1.0 && (good_toad t.1.1.1.1.0 && (good_prefixes t.1.1.1.1.1.0 && (good_prefixes t.1.1.1.1.1.1))))))

vrt-codes : Codes (after 3 (both read_said (both read_said (both read_said (after 2 (both read_number (both read_toad (after 0 (both read_prefixes (ended read_prefixes 0)))))))))) vrt_bytes vrt_good
vrt-codes = codes-after 3 (lit< tt) (codes-both codes-said (codes-both codes-said (codes-both codes-said (codes-after 2 (lit< tt) (codes-both codes-sn (codes-both codes-toad (codes-after 0 (lit< tt) (codes-both codes-prefixes (none codes-prefixes)))))))))

abbrev iss_bytes : Said × (Said × Said) → List ℕ
iss_bytes t = 3 ∷ (said_bytes t.0 ++ (said_bytes t.1.0 ++ (((((said_bytes t.1.1 ++ (0 ∷ [])) ++ (0 ∷ [])) ++ (0 ∷ [])) ++ (0 ∷ [])) ++ (0 ∷ []))))

abbrev iss_good : Said × (Said × Said) → Bool
iss_good t = good_said t.0 && (good_said t.1.0 && (good_said t.1.1))

iss-codes : Codes (after 3 (both read_said (both read_said (ended (ended (ended (ended (ended read_said 0) 0) 0) 0) 0)))) iss_bytes iss_good
iss-codes = codes-after 3 (lit< tt) (codes-both codes-said (codes-both codes-said (none (none (none (none (none codes-said)))))))

abbrev rev_bytes : Said × (Said × (Said × Said)) → List ℕ
rev_bytes t = 4 ∷ (said_bytes t.0 ++ (said_bytes t.1.0 ++ (said_bytes t.1.1.0 ++ (((((said_bytes t.1.1.1 ++ (0 ∷ [])) ++ (0 ∷ [])) ++ (0 ∷ [])) ++ (0 ∷ [])) ++ (0 ∷ [])))))

abbrev rev_good : Said × (Said × (Said × Said)) → Bool
rev_good t = good_said t.0 && (good_said t.1.0 && (good_said t.1.1.0 && (good_said t.1.1.1)))

rev-codes : Codes (after 4 (both read_said (both read_said (both read_said (ended (ended (ended (ended (ended read_said 0) 0) 0) 0) 0))))) rev_bytes rev_good
rev-codes = codes-after 4 (lit< tt) (codes-both codes-said (codes-both codes-said (codes-both codes-said (none (none (none (none (none codes-said))))))))

abbrev bis_bytes : Said × (Said × (Said × Seal)) → List ℕ
bis_bytes t = 3 ∷ (said_bytes t.0 ++ (said_bytes t.1.0 ++ (((((said_bytes t.1.1.0 ++ (0 ∷ [])) ++ (0 ∷ [])) ++ (0 ∷ [])) ++ (0 ∷ [])) ++ (1 ∷ seal_bytes t.1.1.1))))

abbrev bis_good : Said × (Said × (Said × Seal)) → Bool
bis_good t = good_said t.0 && (good_said t.1.0 && (good_said t.1.1.0 && (good_seal t.1.1.1)))

bis-codes : Codes (after 3 (both read_said (both read_said (both (ended (ended (ended (ended read_said 0) 0) 0) 0) (after 1 read_seal))))) bis_bytes bis_good
bis-codes = codes-after 3 (lit< tt) (codes-both codes-said (codes-both codes-said (codes-both (none (none (none (none codes-said)))) (codes-after 1 (lit< tt) codes-seal))))

vcp-bytes : (t : Said × (Matter × (ℕ × (List ℕ × List BasicPrefix)))) → vcp_bytes t ≡ tail_bytes (vcp_of t)
unfolding section_bytes joined
vcp-bytes t = simp (append_assoc, append-nil)

vrt-bytes : (t : Said × (Said × (Said × (Sn × (ℕ × (List BasicPrefix × List BasicPrefix)))))) → vrt_bytes t ≡ tail_bytes (vrt_of t)
unfolding section_bytes joined
vrt-bytes t = simp (append_assoc, append-nil)

iss-bytes : (t : Said × (Said × Said)) → iss_bytes t ≡ tail_bytes (iss_of t)
unfolding section_bytes joined
iss-bytes t = simp (append_assoc, append-nil)

rev-bytes : (t : Said × (Said × (Said × Said))) → rev_bytes t ≡ tail_bytes (rev_of t)
unfolding section_bytes joined
rev-bytes t = simp (append_assoc, append-nil)

bis-bytes : (t : Said × (Said × (Said × Seal))) → bis_bytes t ≡ tail_bytes (bis_of t)
unfolding section_bytes joined
bis-bytes t = simp (append_assoc, append-nil)

brv-bytes : (t : Said × (Said × (Said × Seal))) → bis_bytes t ≡ tail_bytes (brv_of t)
unfolding section_bytes joined
brv-bytes t = simp (append_assoc, append-nil)

-- what is read after a kind byte is an event of that kind
module _ (k : ℕ) (s : List ℕ) (d : Cursor) (b : Bytes s) where
  abbrev Kept : Read Event → Type 0
  Kept r = r.next.ok ≡ true → Told tail_bytes good_event s d r × (kind_byte r.value ≡ k)

  step : (n : ℕ) (x y : Read Event) → (k ≡ n → Kept x) → Kept y → Kept (cond (eqb k n) x y)
  step n x y p q = go (eqb k n) refl
    where
      go : (t : Bool) → eqb k n ≡ t → Kept (cond t x y)
      go true e = p (eqb-true k n e)
      go false e = q

  last-kind : Kept (read_brv s (need d (eqb k 6)))
  unfolding read_brv
  last-kind h =
      let t = kind-sound brv_of _ bis_bytes bis_good bis-codes brv-bytes (λ x. refl) s (need d (eqb k 6)) b h in
      let w = passed d (eqb k 6) t.ok in
      (subst (λ (c : Cursor). Told tail_bytes good_event s c (read_brv s (need d (eqb k 6)))) w.stays t, sym (eqb-true k 6 w.test))

  kinds : Kept (read_kind k s d)
  unfolding read_kind read_vcp read_vrt read_iss read_rev read_bis
  kinds =
      step 1 _ _ (λ e h. (kind-sound vcp_of _ vcp_bytes vcp_good vcp-codes vcp-bytes (λ x. refl) s d b h, sym e))
      (step 2 _ _ (λ e h. (kind-sound vrt_of _ vrt_bytes vrt_good vrt-codes vrt-bytes (λ x. refl) s d b h, sym e))
      (step 3 _ _ (λ e h. (kind-sound iss_of _ iss_bytes iss_good iss-codes iss-bytes (λ x. refl) s d b h, sym e))
      (step 4 _ _ (λ e h. (kind-sound rev_of _ rev_bytes rev_good rev-codes rev-bytes (λ x. refl) s d b h, sym e))
      (step 5 _ _ (λ e h. (kind-sound bis_of _ bis_bytes bis_good bis-codes bis-bytes (λ x. refl) s d b h, sym e))
      last-kind))))

kind-is : (e : Event) (s : List ℕ) (d : Cursor) → d.ok ≡ true → Stands s d.at (tail_bytes e) → good_event e ≡ true → read_kind (kind_byte e) s d ≡ record { value = e; next = placed (d.at + length (tail_bytes e)) }
unfolding read_kind read_vcp read_vrt read_iss read_rev read_bis read_brv need
kind-is (vcp a i t g m) s d o st l = kind-complete vcp_of _ vcp_bytes vcp_good vcp-codes vcp-bytes (λ x. refl) s d (a, (i, (t, (g, m)))) o st l
kind-is (vrt a r p n t m q) s d o st l = kind-complete vrt_of _ vrt_bytes vrt_good vrt-codes vrt-bytes (λ x. refl) s d (a, (r, (p, (n, (t, (m, q)))))) o st l
kind-is (iss a c r) s d o st l = kind-complete iss_of _ iss_bytes iss_good iss-codes iss-bytes (λ x. refl) s d (a, (c, r)) o st l
kind-is (rev a c r p) s d o st l = kind-complete rev_of _ rev_bytes rev_good rev-codes rev-bytes (λ x. refl) s d (a, (c, (r, p))) o st l
kind-is (bis a c r x) s d o st l = kind-complete bis_of _ bis_bytes bis_good bis-codes bis-bytes (λ x. refl) s d (a, (c, (r, x))) o st l
kind-is (brv a c p x) s d o st l = kind-complete brv_of _ bis_bytes bis_good bis-codes brv-bytes (λ x. refl) s d (a, (c, (p, x))) o st l

kind-small : (e : Event) → kind_byte e < 256
kind-small (vcp a i t g m) = lit< tt
kind-small (vrt a r p n t m q) = lit< tt
kind-small (iss a c r) = lit< tt
kind-small (rev a c r p) = lit< tt
kind-small (bis a c r x) = lit< tt
kind-small (brv a c p x) = lit< tt

event-sound : (s : List ℕ) (c : Cursor) → Bytes s → (read_event s c).next.ok ≡ true → Told event_bytes good_event s c (read_event s c)
unfolding read_event event_bytes six_sections
event-sound s c b h =
    let r = read_byte s c in
    let w = kinds r.value s r.next b h in
    led event_bytes r.value s c (read_event s c) b refl (ap (λ (k : ℕ). k ∷ tail_bytes (read_event s c).value) w.1) w.0

event-complete : (s : List ℕ) (c : Cursor) (e : Event) → c.ok ≡ true → Stands s c.at (event_bytes e) → good_event e ≡ true → read_event s c ≡ record { value = e; next = placed (c.at + length (event_bytes e)) }
unfolding read_event event_bytes six_sections
event-complete s c e o st l =
    let w = leads (kind_byte e) (tail_bytes e) s c (kind-small e) o st in
    let k = kind-is e s (placed (c.at + 1)) refl w.1 l in
    rw w.0 (k ∙ ap (λ (m : ℕ). record { value = e; next = placed m }) (shift c.at (length (tail_bytes e))))

pub codes-event : Codes read_event event_bytes good_event
codes-event = record { sound = event-sound; complete = event-complete }
