-- Readers and layouts agree, for lists: n elements, and a section with its count.
use Prim.Native.Nat.{ℕ, zero, suc, ◌+◌, ◌<◌}
use mathlib.Core.Path.{◌≡◌, refl, ap, sym, subst, ◌∙◌}
use mathlib.Core.List.{List, [], ◌∷◌, ◌++◌, append_assoc, append-nil}
use mathlib.Core.Bool.{Bool, true, cond, ◌&&◌, and_assoc, and-true as and-unit}
use native.Mathlib.Nat.{add_assoc, add-zero}
use native.Mathlib.Numerals.{add-one}
use native.Mathlib.Omega.{arith}
use borrow.Author.Tests.{eq-eqb, eqb-true, lt-ltb, leb-true}
use lib.Dec.{eqb, leb}
use lib.ListN.{length, length-append}
use Rattle.laws.specs.Number.{Bytes}
use Rattle.laws.proofs.Tests.{and_left, and_right}
use Rattle.codec.specs.declared.Cursor.{Cursor}
use Rattle.codec.specs.Layout.{joined, section_bytes, all}
use Rattle.codec.specs.Readers.{placed, Reader, need, read_byte, times, count_up_to, section}
use Rattle.codec_laws.proofs.Stands.{Stands, stands-join, stands-first, stands-rest, passed, stays}
use Rattle.codec_laws.proofs.Codes.{Told, Codes, and-true, shift, codes-byte, is_byte}

module _ {A : Type 0} (f : A → List ℕ) where
  pub joined-append : (l m : List A) → joined f (l ++ m) ≡ joined f l ++ joined f m
  unfolding joined
  joined-append [] m = refl
  joined-append (x ∷ l) m = rw (joined-append l m, append_assoc)

  pub joined_snoc : (l : List A) (x : A) → joined f (l ++ (x ∷ [])) ≡ joined f l ++ f x
  unfolding joined
  joined_snoc l x = joined-append l (x ∷ []) ∙ rw append-nil

pub all_append : {A : Type 0} (g : A → Bool) (l m : List A) → all g (l ++ m) ≡ (all g l && all g m)
unfolding all
all_append g [] m = refl
all_append g (x ∷ l) m = rw (all_append g l m) (sym (and_assoc (g x) (all g l) (all g m)))

pub all_snoc : {A : Type 0} (g : A → Bool) (l : List A) (x : A) → all g (l ++ (x ∷ [])) ≡ (all g l && g x)
unfolding all
all_snoc g l x = all_append g l (x ∷ []) ∙ rw (and-unit (g x))

-- a list of suc n elements is one of n, and one more
data Snoc {A : Type 0} (n : ℕ) : List A → Type 0 where
  more : (l : List A) (x : A) → length l ≡ n → Snoc n (l ++ (x ∷ []))

behind : {A : Type 0} {n : ℕ} {l : List A} (x : A) → Snoc n l → Snoc (suc n) (x ∷ l)
behind x (more l y e) = more (x ∷ l) y (ap suc e)

snoc-cons : {A : Type 0} (n : ℕ) (x : A) (l : List A) → length l ≡ n → Snoc n (x ∷ l)
snoc-cons zero x [] e = more [] x refl
snoc-cons zero x (y ∷ l) e = absurd (omega (arith, e))
snoc-cons (suc n) x [] e = absurd (omega (arith, e))
snoc-cons (suc n) x (y ∷ l) e = behind x (snoc-cons n y l (omega (arith, e)))

snoc : {A : Type 0} (n : ℕ) (l : List A) → length l ≡ suc n → Snoc n l
snoc n [] e = absurd (omega (arith, e))
snoc n (x ∷ l) e = snoc-cons n x l (omega (arith, e))

cursor-is : (c : Cursor) → c.ok ≡ true → c ≡ placed (c.at + 0)
cursor-is c h = ap (λ (b : Bool). record { ok = b; at = c.at }) h ∙ ap placed (sym (add-zero c.at))

module _ {A : Type 0} (p : Reader A) (bytes : A → List ℕ) (good : A → Bool) (k : Codes p bytes good) where
  abbrev exactly : ℕ → List A → Bool
  exactly n l = eqb (length l) n && all good l

  length-snoc : (l : List A) (x : A) → length (l ++ (x ∷ [])) ≡ suc (length l)
  length-snoc l x = length-append l (x ∷ []) ∙ add-one (length l)

  times-sound : (n : ℕ) (s : List ℕ) (c : Cursor) → Bytes s → (times n p s c).next.ok ≡ true → Told (joined bytes) (exactly n) s c (times n p s c)
  unfolding times joined all
  times-sound zero s c b h = record { ok = h; stands = refl; next = cursor-is c h; limits = refl }
  times-sound (suc n) s c b h =
      let r = times n p s c in
      let x = (p s r.next).value in
      let t2 = k.sound s r.next b h in
      let t1 = times-sound n s c b t2.ok in
      let at : r.next.at ≡ c.at + length (joined bytes r.value) = ap (λ (d : Cursor). d.at) t1.next in
      let st : Stands s (c.at + length (joined bytes r.value)) (bytes x) = subst (λ (m : ℕ). Stands s m (bytes x)) at t2.stands in
      let j : joined bytes (r.value ++ (x ∷ [])) ≡ joined bytes r.value ++ bytes x = joined_snoc bytes r.value x in
      let q : length r.value ≡ n = eqb-true (length r.value) n (and_left (eqb (length r.value) n) (all good r.value) t1.limits) in
      record {
        ok = t1.ok;
        stands = subst (λ (l : List ℕ). Stands s c.at l) (sym j) (stands-join s c.at (joined bytes r.value) (bytes x) t1.stands st);
        next =
            t2.next
            ∙ ap (λ (m : ℕ). placed (m + length (bytes x))) at
            ∙ ap placed (add_assoc c.at (length (joined bytes r.value)) (length (bytes x)) ∙ ap (λ (m : ℕ). c.at + m) (sym (ap length j ∙ length-append (joined bytes r.value) (bytes x))));
        limits =
            and-true (eqb (length (r.value ++ (x ∷ []))) (suc n)) (all good (r.value ++ (x ∷ [])))
            (eq-eqb (length (r.value ++ (x ∷ []))) (suc n) (length-snoc r.value x ∙ ap suc q))
            (all_snoc good r.value x ∙ and-true (all good r.value) (good x) (and_right (eqb (length r.value) n) (all good r.value) t1.limits) t2.limits);
      }

  times-step : (n : ℕ) (s : List ℕ) (c : Cursor) (l : List A) (x : A)
      → (exactly n l ≡ true → Stands s c.at (joined bytes l) → times n p s c ≡ record { value = l; next = placed (c.at + length (joined bytes l)) })
      → length l ≡ n → Stands s c.at (joined bytes (l ++ (x ∷ []))) → all good (l ++ (x ∷ [])) ≡ true
      → times (suc n) p s c ≡ record { value = l ++ (x ∷ []); next = placed (c.at + length (joined bytes (l ++ (x ∷ [])))) }
  unfolding times
  times-step n s c l x rest e st g =
      let j : joined bytes (l ++ (x ∷ [])) ≡ joined bytes l ++ bytes x = joined_snoc bytes l x in
      let st' : Stands s c.at (joined bytes l ++ bytes x) = subst (λ (m : List ℕ). Stands s c.at m) j st in
      let g' : (all good l && good x) ≡ true = sym (all_snoc good l x) ∙ g in
      let e1 = rest (and-true (eqb (length l) n) (all good l) (eq-eqb (length l) n e) (and_left (all good l) (good x) g')) (stands-first s c.at (joined bytes l) (bytes x) st') in
      let e2 = k.complete s (placed (c.at + length (joined bytes l))) x refl (stands-rest s c.at (joined bytes l) (bytes x) st') (and_right (all good l) (good x) g') in
      rw (e1, e2, j, length-append, add_assoc)

  times-complete : (n : ℕ) (s : List ℕ) (c : Cursor) (l : List A) → c.ok ≡ true → Stands s c.at (joined bytes l) → exactly n l ≡ true → times n p s c ≡ record { value = l; next = placed (c.at + length (joined bytes l)) }
  unfolding times joined
  times-complete zero s c [] o st g = ap (λ (d : Cursor). record { value = []; next = d }) (cursor-is c o)
  times-complete zero s c (x ∷ l) o st g = absurd (omega (arith, eqb-true (length (x ∷ l)) 0 (and_left (eqb (length (x ∷ l)) 0) (all good (x ∷ l)) g)))
  times-complete (suc n) s c l o st g =
      go l (snoc n l (eqb-true (length l) (suc n) (and_left (eqb (length l) (suc n)) (all good l) g))) st (and_right (eqb (length l) (suc n)) (all good l) g) (λ m. times-complete n s c m o)
    where
      go : (l : List A) → Snoc n l → Stands s c.at (joined bytes l) → all good l ≡ true
          → ((m : List A) → Stands s c.at (joined bytes m) → exactly n m ≡ true → times n p s c ≡ record { value = m; next = placed (c.at + length (joined bytes m)) })
          → times (suc n) p s c ≡ record { value = l; next = placed (c.at + length (joined bytes l)) }
      go l (more m x e) st g rest = times-step n s c m x (λ q r. rest m r q) e st g

  pub codes-times : (n : ℕ) → Codes (times n p) (joined bytes) (exactly n)
  codes-times n = record { sound = times-sound n; complete = times-complete n }

  -- a section of at most limit elements
  abbrev within : ℕ → List A → Bool
  within limit l = leb (length l) limit && all good l

  section-sound : (limit : ℕ) (s : List ℕ) (c : Cursor) → Bytes s → (section limit p s c).next.ok ≡ true → Told (section_bytes bytes) (within limit) s c (section limit p s c)
  unfolding section count_up_to section_bytes
  section-sound limit s c b h =
      let r = read_byte s c in
      let d = need r.next (leb r.value limit) in
      let n = cond d.ok r.value 0 in
      let t2 = times-sound n s d b h in
      let w = passed r.next (leb r.value limit) t2.ok in
      let t1 = codes-byte.sound s c b w.ok in
      let l = (times n p s d).value in
      let len : length l ≡ n = eqb-true (length l) n (and_left (eqb (length l) n) (all good l) t2.limits) in
      let count : length l ≡ r.value = len ∙ ap (λ (o : Bool). cond o r.value 0) t2.ok in
      let at : d.at ≡ c.at + 1 = ap (λ (e : Cursor). e.at) (w.stays ∙ t1.next) in
      let st1 : Stands s c.at (length l ∷ []) = subst (λ (x : ℕ). Stands s c.at (x ∷ [])) (sym count) t1.stands in
      let st2 : Stands s (c.at + 1) (joined bytes l) = subst (λ (m : ℕ). Stands s m (joined bytes l)) at t2.stands in
      record {
        ok = t1.ok;
        stands = stands-join s c.at (length l ∷ []) (joined bytes l) st1 st2;
        next = t2.next ∙ ap (λ (m : ℕ). placed (m + length (joined bytes l))) at ∙ ap placed (shift c.at (length (joined bytes l)));
        limits =
            and-true (leb (length l) limit) (all good l)
            (ap (λ (x : ℕ). leb x limit) count ∙ w.test)
            (and_right (eqb (length l) n) (all good l) t2.limits);
      }

  section-complete : (limit : ℕ) → limit < 256 → (s : List ℕ) (c : Cursor) (l : List A) → c.ok ≡ true → Stands s c.at (section_bytes bytes l) → within limit l ≡ true → section limit p s c ≡ record { value = l; next = placed (c.at + length (section_bytes bytes l)) }
  unfolding section count_up_to section_bytes
  section-complete limit small s c l o st g =
      let fits : leb (length l) limit ≡ true = and_left (leb (length l) limit) (all good l) g in
      let byte : is_byte (length l) ≡ true = lt-ltb (length l) 256 (omega (arith, leb-true (length l) limit fits)) in
      let e1 = codes-byte.complete s c (length l) o (stands-first s c.at (length l ∷ []) (joined bytes l) st) byte in
      let e2 = times-complete (length l) s (placed (c.at + 1)) l refl (stands-rest s c.at (length l ∷ []) (joined bytes l) st) (and-true (eqb (length l) (length l)) (all good l) (eq-eqb (length l) (length l) refl) (and_right (leb (length l) limit) (all good l) g)) in
      rw (e1, stays (placed (c.at + 1)) (leb (length l) limit) fits, e2, shift)

  pub codes-section : (limit : ℕ) → limit < 256 → Codes (section limit p) (section_bytes bytes) (within limit)
  codes-section limit small = record { sound = section-sound limit; complete = section-complete limit small }
