-- Readers and layouts agree: stated once, for any reader, and carried through the ways in which readers are put together.
--     Codes                   a reader reads exactly what a layout writes, within the limits
--     codes-map, codes-like   under another form; with equal bytes or limits
--     codes-both, codes-after, codes-ended, codes-times, codes-section
--                             one behind the other, counts, n elements, a section
--     codes-number, codes-byte, codes-byte-if, codes-quad, codes-sn, codes-if, codes-said, codes-prefix, codes-identifier
--                             the readers of the cursor
use Prim.Native.Nat.{ℕ, suc, ◌+◌, ◌^◌, ◌<◌, ◌≤◌}
use mathlib.Core.Path.{◌≡◌, refl, ap, sym, subst, ◌∙◌}
use mathlib.Core.List.{List, [], ◌∷◌, ◌++◌}
use mathlib.Core.Bool.{Bool, true, false, ◌&&◌, ◌||◌}
use native.Mathlib.Nat.{add_assoc, mod-eq_of_lt}
use native.Mathlib.Omega.{arith}
use borrow.Author.Tests.{eq-eqb, eqb-true, leb-true, lt-ltb, ltb-true}
use lib.Dec.{eqb, leb, ltb, lit<}
use lib.ListN.{length, take, drop, length-append}
use Rattle.laws.specs.Number.{number, number_at, digits, Bytes}
use Rattle.laws.proofs.Number.{length_digits, number-below, number-at, digits_number, whole-number}
use Rattle.laws.proofs.Tests.{and_left, and_right}
use Rattle.cesr_sn.specs.Numbers.{value, sn_of, read_sn, sn_bytes}
use Rattle.codec.specs.Primitives.{matter_bytes, read_matter, is_basic, is_said}
use Rattle.cesr_sn.specs.declared.Sn.{Sn}
use Rattle.codec.specs.declared.Matter.{Matter}
use Rattle.cesr_sn.proofs.Words.{words-value, value-words, sn_of-good, value-fits}
use Rattle.codec.proofs.Matters.{length-matter}
use Rattle.codec_laws.proofs.Round.{Filled, matter-at, matter-bytes, read-filled}
use Rattle.codec.specs.declared.Cursor.{Cursor}
use Rattle.codec.specs.Layout.{byte_bytes, said_bytes, prefix_bytes, is_matter, good_sn, good_toad, good_said, good_prefix, good_identifier}
use Rattle.codec.specs.Readers.{placed, Reader, advanced, counted, mapped, both, after, ended, read_byte, read_byte_if, read_quad, read_number, read_if, read_said, read_prefix, read_identifier, is_identifier, said_of, prefix_of}
use Rattle.codec.specs.declared.Read.{Read}
use Rattle.codec_laws.proofs.Stands.{Stands, stands-join, stands-first, stands-rest, stands-fits, stands-split, stands-place, went, goes_on, passed, stays}

-- what a reader that has not stopped tells of the value that it gives
pub record Told {A : Type 0} (bytes : A → List ℕ) (good : A → Bool) (s : List ℕ) (c : Cursor) (r : Read A) : Type 0 where
  pub ok : c.ok ≡ true
  pub stands : Stands s c.at (bytes r.value)
  pub next : r.next ≡ placed (c.at + length (bytes r.value))
  pub limits : good r.value ≡ true

pub record Codes {A : Type 0} (p : Reader A) (bytes : A → List ℕ) (good : A → Bool) : Type 0 where
  pub sound : (s : List ℕ) (c : Cursor) → Bytes s → (p s c).next.ok ≡ true → Told bytes good s c (p s c)
  pub complete : (s : List ℕ) (c : Cursor) (x : A) → c.ok ≡ true → Stands s c.at (bytes x) → good x ≡ true → p s c ≡ record { value = x; next = placed (c.at + length (bytes x)) }

pub and-true : (a b : Bool) → a ≡ true → b ≡ true → (a && b) ≡ true
and-true a b p q = rw (p, q)

-- the same with bytes and limits that are equal where the limits are kept
pub codes-like : {A : Type 0} (p : Reader A) (bytes bytes' : A → List ℕ) (good good' : A → Bool) → ((x : A) → good x ≡ true → bytes x ≡ bytes' x) → ((x : A) → good x ≡ good' x) → Codes p bytes good → Codes p bytes' good'
codes-like p bytes bytes' good good' e g k =
    record {
      sound = λ s c b h.
          let t = k.sound s c b h in
          let q = e (p s c).value t.limits in
          record { ok = t.ok; stands = rw q at t.stands; next = rw q at t.next; limits = sym (g (p s c).value) ∙ t.limits };
      complete = λ s c x o st l.
          let w : good x ≡ true = g x ∙ l in
          let q = e x w in
          k.complete s c x o (rw (← q) at st) w ∙ rw q;
    }

pub mapped-is : {A B : Type 0} (f : A → B) (p : Reader A) (s : List ℕ) (c d : Cursor) (x : A) → p s c ≡ record { value = x; next = d } → mapped f p s c ≡ record { value = f x; next = d }
mapped-is f p s c d x e = rw e

-- a value under another form: f and g undo each other within the limits
pub codes-map : {A B : Type 0} {p : Reader A} {bytes : A → List ℕ} {good : A → Bool} (f : A → B) (g : B → A) (good' : B → Bool) → ((x : A) → good x ≡ true → (g (f x) ≡ x) × (good' (f x) ≡ true)) → ((y : B) → good' y ≡ true → (f (g y) ≡ y) × (good (g y) ≡ true)) → Codes p bytes good → Codes (mapped f p) (λ y. bytes (g y)) good'
codes-map {p} {bytes} {good} f g good' to back k =
    record {
      sound = λ s c b h.
          let t = k.sound s c b h in
          let u = to (p s c).value t.limits in
          record { ok = t.ok; stands = rw u.0 t.stands; next = rw u.0 t.next; limits = u.1 };
      complete = λ s c y o st l.
          let u = back y l in
          let e = k.complete s c (g y) o st u.1 in
          rw (e, u.0);
    }

-- one behind the other
pub codes-both : {A B : Type 0} {p : Reader A} {q : Reader B} {ba : A → List ℕ} {bb : B → List ℕ} {ga : A → Bool} {gb : B → Bool} → Codes p ba ga → Codes q bb gb → Codes (both p q) (λ t. ba t.0 ++ bb t.1) (λ t. ga t.0 && gb t.1)
codes-both {p} {q} {ba} {bb} {ga} {gb} j k =
    record {
      sound = λ s c b h.
          let t2 = k.sound s (p s c).next b h in
          let t1 = j.sound s c b t2.ok in
          let x = (p s c).value in
          let y = (q s (p s c).next).value in
          let at1 : (p s c).next.at ≡ c.at + length (ba x) = ap (λ (d : Cursor). d.at) t1.next in
          let st2 : Stands s (c.at + length (ba x)) (bb y) = subst (λ (n : ℕ). Stands s n (bb y)) at1 t2.stands in
          record {
            ok = t1.ok;
            stands = stands-join s c.at (ba x) (bb y) t1.stands st2;
            next = t2.next ∙ ap (λ (n : ℕ). placed (n + length (bb y))) at1 ∙ ap placed (rw (length-append, add_assoc));
            limits = and-true (ga x) (gb y) t1.limits t2.limits;
          };
      complete = λ s c t o st l.
          let x = t.0 in
          let y = t.1 in
          let e1 = j.complete s c x o (stands-first s c.at (ba x) (bb y) st) (and_left (ga x) (gb y) l) in
          let e2 = k.complete s (placed (c.at + length (ba x))) y refl (stands-rest s c.at (ba x) (bb y) st) (and_right (ga x) (gb y) l) in
          rw (e1, e2, length-append, add_assoc);
    }

-- a number of n bytes
abbrev number_reader : ℕ → Reader ℕ
number_reader n s c = record { value = number_at s c.at n; next = advanced s c n }

pub codes-number : (n : ℕ) → 0 < n → Codes (number_reader n) (digits n) (λ x. ltb x (256 ^ n))
codes-number n pos =
    record {
      sound = λ s c b h.
          let w = went s c n h in
          let at = c.at in
          let v = number s at n in
          let e : number_at s at n ≡ v = whole-number s at n w.fits in
          let d : digits n v ≡ take n (drop at s) = digits_number n s at b w.fits in
          let g : length (digits n v) ≡ n = length_digits n v in
          let st : Stands s at (digits n v) = rw g (sym d) in
          record {
            ok = w.ok;
            stands = rw e st;
            next = w.goes ∙ rw (e, g);
            limits = rw e (lt-ltb v (256 ^ n) (number-below s at n b));
          };
      complete = λ s c x o st l.
          let at = c.at in
          let g : length (digits n x) ≡ n = length_digits n x in
          let f : at + n ≤ length s = omega (arith, stands-fits s at (digits n x) (rw g pos) st, g) in
          let e : number_at s at n ≡ x =
          whole-number s at n f
          ∙ number-at s (take at s) (drop (at + length (digits n x)) s) at n x (stands-split s at (digits n x) st) (stands-place s at (digits n x) (rw g pos) st) (ltb-true x (256 ^ n) l) in
          rw (goes_on s c n o f, e, length_digits);
    }

one_byte : (x : ℕ) → ltb x (256 ^ 1) ≡ true → digits 1 x ≡ x ∷ []
unfolding digits
one_byte x h = ap (λ (y : ℕ). y ∷ []) (mod-eq_of_lt (ltb-true x 256 h))

abbrev pub is_byte : ℕ → Bool
is_byte x = ltb x 256

pub codes-byte : Codes read_byte byte_bytes is_byte
unfolding read_byte
codes-byte = codes-like (number_reader 1) (digits 1) byte_bytes is_byte is_byte one_byte (λ x. refl) (codes-number 1 (lit< tt))

pub codes-quad : Codes read_quad (digits 4) good_toad
unfolding read_quad good_toad
codes-quad = codes-number 4 (lit< tt)

pub codes-sn : Codes read_number sn_bytes good_sn
unfolding read_number read_sn sn_bytes good_sn
codes-sn =
    codes-map sn_of value good_sn
    (λ x h. let b = ltb-true x (256 ^ 16) h in (value-words x b, words-good x))
    (λ n h.
    let p = ltb-true n.hi (2 ^ 64) (and_left (ltb n.hi (2 ^ 64)) (ltb n.lo (2 ^ 64)) h) in
    let q = ltb-true n.lo (2 ^ 64) (and_right (ltb n.hi (2 ^ 64)) (ltb n.lo (2 ^ 64)) h) in
    (words-value n (record { hi = p; lo = q }), lt-ltb (value n) (256 ^ 16) (value-below n p q)))
    (codes-number 16 (lit< tt))
  where
    words-good : (x : ℕ) → (ltb (sn_of x).hi (2 ^ 64) && ltb (sn_of x).lo (2 ^ 64)) ≡ true
    words-good x = sn_of-good x

    value-below : (n : Sn) → n.hi < 2 ^ 64 → n.lo < 2 ^ 64 → value n < 256 ^ 16
    value-below n p q = value-fits n p q

-- a byte that passes a test
pub codes-byte-if : (test : ℕ → Bool) → Codes (read_byte_if test) byte_bytes (λ x. is_byte x && test x)
unfolding read_byte_if
codes-byte-if test =
    record {
      sound = λ s c b h.
          let r = read_byte s c in
          let w = passed r.next (test r.value) h in
          let t = codes-byte.sound s c b w.ok in
          record { ok = t.ok; stands = t.stands; next = w.stays ∙ t.next; limits = and-true (is_byte r.value) (test r.value) t.limits w.test };
      complete = λ s c x o st l.
          let e = codes-byte.complete s c x o st (and_left (is_byte x) (test x) l) in
          rw e (rw (stays (placed (c.at + 1)) (test x) (and_right (is_byte x) (test x) l)));
    }

-- the limits of a primitive's words, as a test and as a fact
pub filled-good : (m : Matter) → Filled m → is_matter m ≡ true
unfolding is_matter
filled-good m f = rw (lt-ltb m.w0 (256 ^ 8) f.w0, lt-ltb m.w1 (256 ^ 8) f.w1, lt-ltb m.w2 (256 ^ 8) f.w2, lt-ltb m.w3 (256 ^ 8) f.w3)

pub good-filled : (m : Matter) → m.code < 256 → is_matter m ≡ true → Filled m
unfolding is_matter
good-filled m l h =
    let t0 = ltb m.w0 (256 ^ 8) in
    let t1 = ltb m.w1 (256 ^ 8) in
    let t2 = ltb m.w2 (256 ^ 8) in
    let t3 = ltb m.w3 (256 ^ 8) in
    let h1 = and_right t0 (t1 && (t2 && t3)) h in
    let h2 = and_right t1 (t2 && t3) h1 in
    record {
      code = l;
      w0 = ltb-true m.w0 (256 ^ 8) (and_left t0 (t1 && (t2 && t3)) h);
      w1 = ltb-true m.w1 (256 ^ 8) (and_left t1 (t2 && t3) h1);
      w2 = ltb-true m.w2 (256 ^ 8) (and_left t2 t3 h2);
      w3 = ltb-true m.w3 (256 ^ 8) (and_right t2 t3 h2);
    }

-- the letters of each role are bytes
letter-basic : (m : Matter) → is_basic m ≡ true → m.code < 256
unfolding is_basic
letter-basic m h = go (eqb m.code 66) refl h
  where
    go : (t : Bool) → eqb m.code 66 ≡ t → (t || eqb m.code 68) ≡ true → m.code < 256
    go true e f = omega (arith, eqb-true m.code 66 e)
    go false e f = omega (arith, eqb-true m.code 68 f)

letter-said : (m : Matter) → is_said m ≡ true → m.code < 256
unfolding is_said
letter-said m h = omega (arith, leb-true m.code 73 (and_right (leb 69 m.code) (leb m.code 73) h))

letter-either : (m : Matter) → is_identifier m ≡ true → m.code < 256
unfolding is_identifier
letter-either m h = go (is_basic m) refl h
  where
    go : (t : Bool) → is_basic m ≡ t → (t || is_said m) ≡ true → m.code < 256
    go true e f = letter-basic m e
    go false e f = letter-said m f

-- a primitive that passes a test, which no letter above a byte passes
pub codes-if : (test : Matter → Bool) → ((m : Matter) → test m ≡ true → m.code < 256) → Codes (read_if test) matter_bytes (λ m. test m && is_matter m)
unfolding read_if
codes-if test letter =
    record {
      sound = λ s c b h.
          let m = read_matter s c.at in
          let w = passed (advanced s c 33) (test m) h in
          let v = went s c 33 w.ok in
          let g = length-matter m in
          record {
            ok = v.ok;
            stands = rw g (sym (matter-bytes s c.at b v.fits));
            next = w.stays ∙ v.goes ∙ rw g;
            limits = and-true (test m) (is_matter m) w.test (filled-good m (read-filled s c.at b));
          };
      complete = λ s c x o st l.
          let g = length-matter x in
          let f : c.at + 33 ≤ length s = omega (arith, stands-fits s c.at (matter_bytes x) (rw g (lit< tt)) st, g) in
          let e : read_matter s c.at ≡ x =
          matter-at x (take c.at s) (drop (c.at + length (matter_bytes x)) s) s c.at (good-filled x (letter x (and_left (test x) (is_matter x) l)) (and_right (test x) (is_matter x) l)) (stands-split s c.at (matter_bytes x) st) (stands-place s c.at (matter_bytes x) (rw g (lit< tt)) st) in
          rw (e, goes_on s c 33 o f, stays (placed (c.at + 33)) (test x) (and_left (test x) (is_matter x) l), length-matter);
    }

pub codes-said : Codes read_said said_bytes good_said
unfolding read_said good_said
codes-said = codes-map said_of (λ d. d.0) good_said (λ m h. (refl, h)) (λ d h. (refl, h)) (codes-if is_said letter-said)

pub codes-prefix : Codes read_prefix prefix_bytes good_prefix
unfolding read_prefix good_prefix
codes-prefix = codes-map prefix_of (λ p. p.0) good_prefix (λ m h. (refl, h)) (λ p h. (refl, h)) (codes-if is_basic letter-basic)

pub codes-identifier : Codes read_identifier matter_bytes good_identifier
unfolding read_identifier good_identifier
codes-identifier = codes-if is_identifier letter-either

-- one byte more in front: the place behind it
pub shift : (a m : ℕ) → a + 1 + m ≡ a + suc m
shift a m = omega arith

-- a byte n, then what a reader tells: together they tell of a layout that begins with n
pub led : {A : Type 0} {tail : A → List ℕ} {good : A → Bool} (bytes : A → List ℕ) (n : ℕ) (s : List ℕ) (c : Cursor) (r : Read A) → Bytes s → (read_byte s c).value ≡ n → bytes r.value ≡ n ∷ tail r.value → Told tail good s (read_byte s c).next r → Told bytes good s c r
led {tail} bytes n s c r b e f t =
    let w = codes-byte.sound s c b t.ok in
    let x = r.value in
    let at : (read_byte s c).next.at ≡ c.at + 1 = ap (λ (d : Cursor). d.at) w.next in
    let st1 : Stands s c.at (n ∷ []) = subst (λ (k : ℕ). Stands s c.at (k ∷ [])) e w.stands in
    let st2 : Stands s (c.at + 1) (tail x) = subst (λ (m : ℕ). Stands s m (tail x)) at t.stands in
    record {
      ok = w.ok;
      stands = subst (λ (l : List ℕ). Stands s c.at l) (sym f) (stands-join s c.at (n ∷ []) (tail x) st1 st2);
      next = t.next ∙ ap (λ (m : ℕ). placed (m + length (tail x))) at ∙ ap placed (shift c.at (length (tail x)) ∙ ap (λ (l : List ℕ). c.at + length l) (sym f));
      limits = t.limits;
    }

-- and the other way: the byte is read, and what stands behind it stands there
pub leads : (n : ℕ) (tail : List ℕ) (s : List ℕ) (c : Cursor) → n < 256 → c.ok ≡ true → Stands s c.at (n ∷ tail) → (read_byte s c ≡ record { value = n; next = placed (c.at + 1) }) × Stands s (c.at + 1) tail
leads n tail s c l o st =
    (codes-byte.complete s c n o (stands-first s c.at (n ∷ []) tail st) (lt-ltb n 256 l), stands-rest s c.at (n ∷ []) tail st)

-- a count that has to be n
pub record Counted (n : ℕ) (s : List ℕ) (c : Cursor) : Type 0 where
  pub ok : c.ok ≡ true
  pub stands : Stands s c.at (n ∷ [])
  pub next : counted n s c ≡ placed (c.at + 1)

pub count-sound : (n : ℕ) (s : List ℕ) (c : Cursor) → Bytes s → (counted n s c).ok ≡ true → Counted n s c
unfolding counted
count-sound n s c b h =
    let r = read_byte s c in
    let w = passed r.next (eqb r.value n) h in
    let t = codes-byte.sound s c b w.ok in
    let e : r.value ≡ n = eqb-true r.value n w.test in
    record { ok = t.ok; stands = subst (λ (x : ℕ). Stands s c.at (x ∷ [])) e t.stands; next = w.stays ∙ t.next }

pub count-complete : (n : ℕ) (s : List ℕ) (c : Cursor) → n < 256 → c.ok ≡ true → Stands s c.at (n ∷ []) → counted n s c ≡ placed (c.at + 1)
unfolding counted
count-complete n s c l o st =
    let e = codes-byte.complete s c n o st (lt-ltb n 256 l) in
    rw e (stays (placed (c.at + 1)) (eqb n n) (eq-eqb n n refl))

pub codes-after : {A : Type 0} {p : Reader A} {bytes : A → List ℕ} {good : A → Bool} (n : ℕ) → n < 256 → Codes p bytes good → Codes (after n p) (λ x. n ∷ bytes x) good
codes-after {p} {bytes} {good} n l k =
    record {
      sound = λ s c b h.
          let t = k.sound s (counted n s c) b h in
          let w = count-sound n s c b t.ok in
          let x = (p s (counted n s c)).value in
          let at : (counted n s c).at ≡ c.at + 1 = ap (λ (d : Cursor). d.at) w.next in
          let st : Stands s (c.at + 1) (bytes x) = subst (λ (m : ℕ). Stands s m (bytes x)) at t.stands in
          record {
            ok = w.ok;
            stands = stands-join s c.at (n ∷ []) (bytes x) w.stands st;
            next = t.next ∙ ap (λ (m : ℕ). placed (m + length (bytes x))) at ∙ ap placed (shift c.at (length (bytes x)));
            limits = t.limits;
          };
      complete = λ s c x o st g.
          let e1 = count-complete n s c l o (stands-first s c.at (n ∷ []) (bytes x) st) in
          let e2 = k.complete s (placed (c.at + 1)) x refl (stands-rest s c.at (n ∷ []) (bytes x) st) g in
          ap (p s) e1 ∙ e2 ∙ ap (λ (m : ℕ). record { value = x; next = placed m }) (shift c.at (length (bytes x)));
    }

pub codes-ended : {A : Type 0} {p : Reader A} {bytes : A → List ℕ} {good : A → Bool} (n : ℕ) → n < 256 → Codes p bytes good → Codes (ended p n) (λ x. bytes x ++ (n ∷ [])) good
codes-ended {p} {bytes} {good} n l k =
    record {
      sound = λ s c b h.
          let x = (p s c).value in
          let w = count-sound n s (p s c).next b h in
          let t = k.sound s c b w.ok in
          let at : (p s c).next.at ≡ c.at + length (bytes x) = ap (λ (d : Cursor). d.at) t.next in
          let st : Stands s (c.at + length (bytes x)) (n ∷ []) = subst (λ (m : ℕ). Stands s m (n ∷ [])) at w.stands in
          record {
            ok = t.ok;
            stands = stands-join s c.at (bytes x) (n ∷ []) t.stands st;
            next = w.next ∙ ap (λ (m : ℕ). placed (m + 1)) at ∙ ap placed (rw (length-append, add_assoc));
            limits = t.limits;
          };
      complete = λ s c x o st g.
          let e1 = k.complete s c x o (stands-first s c.at (bytes x) (n ∷ []) st) g in
          let e2 = count-complete n s (placed (c.at + length (bytes x))) l refl (stands-rest s c.at (bytes x) (n ∷ []) st) in
          rw (e1, e2, length-append, add_assoc);
    }
