-- Readers and layouts agree, for config bytes, toads, lists of prefixes and seals.
use Prim.Native.Nat.{ℕ, zero, suc, ◌+◌, ◌*◌, ◌%◌, ◌^◌, ◌<◌}
use mathlib.Core.Path.{◌≡◌, refl, ap, sym, subst, ◌∙◌}
use mathlib.Core.List.{List, [], ◌∷◌, ◌++◌}
use mathlib.Core.Bool.{Bool, true, false, cond, ◌&&◌, ◌||◌, and-false, true≢false, false≢true}
use native.Mathlib.Nat.{lt_of_lt_of_le}
use native.Mathlib.Omega.{arith}
use borrow.Author.Tests.{ne_eqb, eqb-true, lt-ltb, ltb-true, leb-true}
use lib.Dec.{eqb, ltb, leb, lit<, lit≤}
use lib.ListN.{length}
use Rattle.laws.specs.Number.{digits, Bytes}
use Rattle.laws.proofs.Tests.{and_left, and_right}
use Rattle.cesr_sn.specs.Numbers.{value, sn_of, sn_bytes}
use Rattle.codec.specs.Primitives.{matter_bytes, is_basic, is_said}
use Rattle.cesr_sn.specs.declared.Sn.{Sn}
use Rattle.codec.specs.declared.Matter.{Matter}
use Rattle.codec.specs.declared.Said.{Said}
use Rattle.cesr_sn.proofs.Words.{value-words, sn_of-good}
use Rattle.codec.specs.Identifiers.{matter_of, identifier_of}
use Rattle.codec.proofs.Identifiers.{matter-identifier}
use Rattle.codec.specs.declared.Identifier.{Identifier}
use Rattle.codec.specs.declared.Identifier.TheVariants.{Basic, SelfAddressing}
use Rattle.codec.specs.declared.Seal.{Seal}
use Rattle.codec.specs.declared.Seal.TheVariants.{Digest, Root, Source, Event as EventSeal, Last, Back, Kind, Opaque}
use Rattle.codec.specs.declared.Cursor.{Cursor}
use Rattle.codec.specs.Layout.{byte_bytes, said_bytes, prefix_bytes, section_bytes, is_matter, good_sn, good_toad, good_said, good_prefix, good_identifier, good_configs, good_prefixes, seal_bytes, good_identity, good_seal}
use Rattle.codec.specs.Readers.{placed, both, read_byte, read_byte_if, read_number, read_said, read_identifier, is_identifier, read_prefix}
use Rattle.codec.specs.Events.{is_config, read_config, read_toad, read_configs, read_prefixes, seal_of, event_seal, read_event_seal, read_other_seal, read_seal}
use Rattle.codec_laws.proofs.Stands.{Stands, passed, stays}
use Rattle.codec_laws.proofs.Codes.{Told, Codes, and-true, led, leads, shift, mapped-is, codes-like, codes-byte, codes-byte-if, is_byte, codes-sn, codes-said, codes-prefix, codes-identifier, codes-both}
use Rattle.codec_laws.proofs.CodesList.{codes-section}

-- a test that only bytes pass
byte-test : (test : ℕ → Bool) → ((x : ℕ) → test x ≡ true → x < 256) → (x : ℕ) → (is_byte x && test x) ≡ test x
byte-test test h x = go (test x) refl
  where
    go : (t : Bool) → test x ≡ t → (is_byte x && test x) ≡ test x
    go true e = rw (e, lt-ltb x 256 (h x e))
    go false e = rw e (and-false (is_byte x))

pub codes-byte-test : (test : ℕ → Bool) → ((x : ℕ) → test x ≡ true → x < 256) → Codes (read_byte_if test) byte_bytes test
codes-byte-test test h = codes-like (read_byte_if test) byte_bytes byte_bytes (λ x. is_byte x && test x) test (λ x g. refl) (byte-test test h) (codes-byte-if test)

pub codes-config : Codes read_config byte_bytes is_config
unfolding read_config is_config
codes-config = codes-byte-test is_config (λ x h. omega (arith, leb-true x 6 (and_right (leb 1 x) (leb x 6) h)))

pub codes-configs : Codes read_configs (section_bytes byte_bytes) good_configs
unfolding read_configs good_configs
codes-configs = codes-section read_config byte_bytes is_config codes-config 8 (lit< tt)

pub codes-prefixes : Codes read_prefixes (section_bytes prefix_bytes) good_prefixes
unfolding read_prefixes good_prefixes
codes-prefixes = codes-section read_prefix prefix_bytes good_prefix codes-prefix 16 (lit< tt)

-- a number below 2 ^ 32 stands in the lower word alone
low : (n : Sn) → value n < 2 ^ 32 → n.lo % 2 ^ 32 ≡ value n
unfolding value
low n h = small n.hi n.lo h
  where
    small : (h l : ℕ) → h * 2 ^ 64 + l < 2 ^ 32 → l % 2 ^ 32 ≡ h * 2 ^ 64 + l
    small h l p = omega arith

toad-bytes : (n : Sn) → value n < 2 ^ 32 → digits 16 (n.lo % 2 ^ 32) ≡ sn_bytes n
unfolding sn_bytes
toad-bytes n v = ap (digits 16) (low n v)

number-bytes : (x : ℕ) → value (sn_of x) ≡ x → sn_bytes (sn_of x) ≡ digits 16 x
unfolding sn_bytes
number-bytes x e = ap (digits 16) e

number-good : (x : ℕ) → good_sn (sn_of x) ≡ true
unfolding good_sn
number-good x = sn_of-good x

wide : (x : ℕ) → x < 2 ^ 32 → x < 2 ^ 128
wide x v = lt_of_lt_of_le v (lit≤ tt)

pub codes-toad : Codes read_toad (digits 16) good_toad
unfolding read_toad good_toad
codes-toad =
    record {
      sound = λ s c b h.
          let r = read_number s c in
          let n = r.value in
          let w = passed r.next (ltb (value n) (2 ^ 32)) h in
          let t = codes-sn.sound s c b w.ok in
          let v : value n < 2 ^ 32 = ltb-true (value n) (2 ^ 32) w.test in
          let e : digits 16 (n.lo % 2 ^ 32) ≡ sn_bytes n = toad-bytes n v in
          record { ok = t.ok; stands = rw e t.stands; next = w.stays ∙ t.next ∙ rw e; limits = lt-ltb (n.lo % 2 ^ 32) (2 ^ 32) (rw (low n v) v) };
      complete = λ s c x o st l.
          let v : x < 2 ^ 32 = ltb-true x (2 ^ 32) l in
          let e : value (sn_of x) ≡ x = value-words x (wide x v) in
          let d : sn_bytes (sn_of x) ≡ digits 16 x = number-bytes x e in
          let k = codes-sn.complete s c (sn_of x) o (rw d st) (number-good x) in
          rw (k, e, stays (placed (c.at + length (sn_bytes (sn_of x)))) (ltb x (2 ^ 32)) l, d, low (sn_of x) (rw e v), e);
    }

-- an identifier's case is the one of its letter, so a primitive becomes an identifier and back
identity-good : (m : Matter) → good_identifier m ≡ true → good_identity (identifier_of m) ≡ true
unfolding good_identifier is_identifier good_prefix good_said identifier_of
identity-good m h = go (is_basic m) refl h
  where
    go : (t : Bool) → is_basic m ≡ t → ((t || is_said m) && is_matter m) ≡ true → good_identity (cond t (Basic (record { 0 = m })) (SelfAddressing (record { 0 = m }))) ≡ true
    go true e g = rw e g
    go false e g = g

letter-apart : (m : Matter) → is_said m ≡ true → is_basic m ≡ false
unfolding is_said is_basic
letter-apart m h =
    let p = leb-true 69 m.code (and_left (leb 69 m.code) (leb m.code 73) h) in
    rw (ne_eqb m.code 66 (λ e. omega arith), ne_eqb m.code 68 (λ e. omega arith))

identity-back : (i : Identifier) → good_identity i ≡ true → (identifier_of (matter_of i) ≡ i) × (good_identifier (matter_of i) ≡ true)
unfolding good_identifier is_identifier good_prefix good_said identifier_of
identity-back (Basic p) h =
    let e = and_left (is_basic p.0) (is_matter p.0) h in
    let w = and_right (is_basic p.0) (is_matter p.0) h in
    (rw e, rw (e, w))
identity-back (SelfAddressing d) h =
    let e = and_left (is_said d.0) (is_matter d.0) h in
    let w = and_right (is_said d.0) (is_matter d.0) h in
    (rw (letter-apart d.0 e), rw (letter-apart d.0 e, e, w))

-- what stands behind the kind byte of an event seal
abbrev seal_parts : Matter × (Sn × Said) → List ℕ
seal_parts t = matter_bytes t.0 ++ (sn_bytes t.1.0 ++ said_bytes t.1.1)

abbrev good_parts : Matter × (Sn × Said) → Bool
good_parts t = good_identifier t.0 && (good_sn t.1.0 && good_said t.1.1)

codes-parts : Codes (both read_identifier (both read_number read_said)) seal_parts good_parts
codes-parts = codes-both codes-identifier (codes-both codes-sn codes-said)

-- the bytes of a seal that is no event seal are its kind
other-bytes : (k : ℕ) → (leb 1 k && leb k 8) ≡ true → eqb k 4 ≡ false → (seal_bytes (seal_of k) ≡ k ∷ []) × (good_seal (seal_of k) ≡ true)
unfolding seal_of
other-bytes zero h e = absurd (false≢true h)
other-bytes (suc zero) h e = (refl, refl)
other-bytes (suc (suc zero)) h e = (refl, refl)
other-bytes (suc (suc (suc zero))) h e = (refl, refl)
other-bytes (suc (suc (suc (suc zero)))) h e = absurd (true≢false e)
other-bytes (suc (suc (suc (suc (suc zero))))) h e = (refl, refl)
other-bytes (suc (suc (suc (suc (suc (suc zero)))))) h e = (refl, refl)
other-bytes (suc (suc (suc (suc (suc (suc (suc zero))))))) h e = (refl, refl)
other-bytes (suc (suc (suc (suc (suc (suc (suc (suc zero)))))))) h e = (refl, refl)
other-bytes (suc (suc (suc (suc (suc (suc (suc (suc (suc k))))))))) h e = absurd (omega (arith, leb-true (suc (suc (suc (suc (suc (suc (suc (suc (suc k))))))))) 8 (and_right (leb 1 (suc (suc (suc (suc (suc (suc (suc (suc (suc k)))))))))) (leb (suc (suc (suc (suc (suc (suc (suc (suc (suc k))))))))) 8) h)))

-- what stands behind the kind byte
abbrev seal_tail : Seal → List ℕ
seal_tail (EventSeal i n d) = matter_bytes (matter_of i) ++ (sn_bytes n ++ said_bytes d)
seal_tail Digest = []
seal_tail Root = []
seal_tail Source = []
seal_tail Last = []
seal_tail Back = []
seal_tail Kind = []
seal_tail Opaque = []

-- what the parts tell, told of the seal behind its kind
parts-told : (s : List ℕ) (d : Cursor) → Bytes s → (read_event_seal s d).next.ok ≡ true → Told seal_tail good_seal s d (read_event_seal s d)
unfolding read_event_seal
parts-told s d b h =
    let t = codes-parts.sound s d b h in
    let x = (both read_identifier (both read_number read_said) s d).value in
    let g1 = and_left (good_identifier x.0) (good_sn x.1.0 && good_said x.1.1) t.limits in
    let g2 = and_right (good_identifier x.0) (good_sn x.1.0 && good_said x.1.1) t.limits in
    let e : seal_parts x ≡ seal_tail (event_seal x) = rw (matter-identifier x.0) in
    record {
      ok = t.ok;
      stands = subst (λ (l : List ℕ). Stands s d.at l) e t.stands;
      next = t.next ∙ ap (λ (l : List ℕ). placed (d.at + length l)) e;
      limits = and-true (good_identity (identifier_of x.0)) (good_sn x.1.0 && good_said x.1.1) (identity-good x.0 g1) g2;
    }

event-sound : (s : List ℕ) (c : Cursor) → Bytes s → eqb (read_byte s c).value 4 ≡ true → (read_event_seal s (read_byte s c).next).next.ok ≡ true → Told seal_bytes good_seal s c (read_event_seal s (read_byte s c).next)
unfolding read_event_seal
event-sound s c b e h = led seal_bytes 4 s c (read_event_seal s (read_byte s c).next) b (eqb-true (read_byte s c).value 4 e) refl (parts-told s (read_byte s c).next b h)

abbrev is_kind : ℕ → Bool
is_kind k = leb 1 k && leb k 8

other-sound : (s : List ℕ) (c : Cursor) → Bytes s → eqb (read_byte s c).value 4 ≡ false → (read_other_seal s c).next.ok ≡ true → Told seal_bytes good_seal s c (read_other_seal s c)
unfolding read_other_seal read_byte_if
other-sound s c b e h =
    let k = (read_byte s c).value in
    let w = passed (read_byte s c).next (is_kind k) h in
    let t = codes-byte.sound s c b w.ok in
    let o = other-bytes k w.test e in
    record {
      ok = t.ok;
      stands = subst (λ (l : List ℕ). Stands s c.at l) (sym o.0) t.stands;
      next = w.stays ∙ t.next ∙ ap (λ (l : List ℕ). placed (c.at + length l)) (sym o.0);
      limits = o.1;
    }

seal-sound : (s : List ℕ) (c : Cursor) → Bytes s → (read_seal s c).next.ok ≡ true → Told seal_bytes good_seal s c (read_seal s c)
unfolding read_seal
seal-sound s c b h = go (eqb (read_byte s c).value 4) refl h
  where
    go : (t : Bool) → eqb (read_byte s c).value 4 ≡ t → (cond t (read_event_seal s (read_byte s c).next) (read_other_seal s c)).next.ok ≡ true → Told seal_bytes good_seal s c (cond t (read_event_seal s (read_byte s c).next) (read_other_seal s c))
    go true e h = event-sound s c b e h
    go false e h = other-sound s c b e h

-- a seal that is its kind byte alone
other-complete : (k : ℕ) (x : Seal) → seal_of k ≡ x → is_kind k ≡ true → eqb k 4 ≡ false → (s : List ℕ) (c : Cursor) → c.ok ≡ true → Stands s c.at (k ∷ []) → read_seal s c ≡ record { value = x; next = placed (c.at + 1) }
unfolding read_seal read_other_seal read_byte_if
other-complete k x e h n s c o st =
    let r = codes-byte.complete s c k o st (lt-ltb k 256 (omega (arith, leb-true k 8 (and_right (leb 1 k) (leb k 8) h)))) in
    rw (r, n, stays (placed (c.at + 1)) (is_kind k) h, e)

event-complete : (i : Identifier) (n : Sn) (d : Said) (s : List ℕ) (c : Cursor) → c.ok ≡ true → Stands s c.at (seal_bytes (EventSeal i n d)) → good_seal (EventSeal i n d) ≡ true → read_seal s c ≡ record { value = EventSeal i n d; next = placed (c.at + length (seal_bytes (EventSeal i n d))) }
unfolding read_seal read_event_seal
event-complete i n d s c o st g =
    let x : Matter × (Sn × Said) = (matter_of i, (n, d)) in
    let back = identity-back i (and_left (good_identity i) (good_sn n && good_said d) g) in
    let w = leads 4 (seal_parts x) s c (lit< tt) o st in
    let e2 = codes-parts.complete s (placed (c.at + 1)) x refl w.1 (and-true (good_identifier (matter_of i)) (good_sn n && good_said d) back.1 (and_right (good_identity i) (good_sn n && good_said d) g)) in
    rw w.0
    (mapped-is event_seal (both read_identifier (both read_number read_said)) s (placed (c.at + 1)) (placed (c.at + 1 + length (seal_parts x))) x e2
    ∙ rw (back.0, shift))

seal-complete : (s : List ℕ) (c : Cursor) (x : Seal) → c.ok ≡ true → Stands s c.at (seal_bytes x) → good_seal x ≡ true → read_seal s c ≡ record { value = x; next = placed (c.at + length (seal_bytes x)) }
unfolding seal_of
seal-complete s c (EventSeal i n d) o st g = event-complete i n d s c o st g
seal-complete s c Digest o st g = other-complete 1 Digest refl refl refl s c o st
seal-complete s c Root o st g = other-complete 2 Root refl refl refl s c o st
seal-complete s c Source o st g = other-complete 3 Source refl refl refl s c o st
seal-complete s c Last o st g = other-complete 5 Last refl refl refl s c o st
seal-complete s c Back o st g = other-complete 6 Back refl refl refl s c o st
seal-complete s c Kind o st g = other-complete 7 Kind refl refl refl s c o st
seal-complete s c Opaque o st g = other-complete 8 Opaque refl refl refl s c o st

pub codes-seal : Codes read_seal seal_bytes good_seal
codes-seal = record { sound = seal-sound; complete = seal-complete }
