-- Marks that stand for the good signatures of a list.
--     no-marks, marks-step    none at first; one signature more
--     marked-set, marked-twice, marked-bad
--                             what a signature does to the marks, by its tests
--     walk_turn               a turn of the walk over signatures in bytes
use Prim.Native.Nat.{ℕ, zero, suc, ◌+◌, ◌<◌, ◌≤◌}
use mathlib.Core.Path.{◌≡◌, refl, ap, sym, ◌∙◌}
use mathlib.Core.List.{List, [], ◌∷◌, ◌++◌}
use mathlib.Core.Bool.{Bool, true, false, not, false≢true, cond, ◌&&◌, ◌||◌, or-false}
use native.Mathlib.Numerals.{add-one}
use native.Mathlib.Omega.{arith}
use native.Mathlib.Decide.{ℕ_discrete}
use borrow.Author.Tests.{eq-eqb, ne_eqb, eqb-true, ltb-true, lt-ltb}
use lib.Dec.{eqb, ltb}
use lib.ListN.{length, get_or, set, length-set}
use lib.Seq.{get_or-set_same, get_or-set_other}
use Rattle.laws.specs.Count.{count}
use Rattle.laws.proofs.Count.{count_same, count-more, count_none}
use Rattle.laws.proofs.Tests.{and_left, and_right}
use Rattle.codec_cursor.specs.declared.Cursor.{Cursor}
use Rattle.codec_cursor.specs.Readers.{times}
use Rattle.codec_cursor.specs.declared.Read.{Read}
use Rattle.registry_signatures.specs.SignatureSections.{read_signature}
use Rattle.registry_signatures.specs.declared.Signature.{Signature}
use Rattle.registry_verification.specs.Receipts.{has_good, receipts, Marks, marked}

-- a bit as a number
abbrev bit : Bool → ℕ
bit b = cond b 1 0

pub record Marked (n : ℕ) (m : Marks) (l : List Signature) : Type 0 where
  pub seen : (k : ℕ) → k < n → get_or m.seen k false ≡ has_good k l
  pub valid : m.valid ≡ receipts n l

pub good-snoc : (i : ℕ) (l : List Signature) (x : Signature) → has_good i (l ++ (x ∷ [])) ≡ (has_good i l || (eqb x.index i && eqb x.verdict 1))
unfolding has_good
good-snoc i [] x = or-false (eqb x.index i && eqb x.verdict 1)
good-snoc i (y ∷ l) x = go (eqb y.index i && eqb y.verdict 1) (good-snoc i l x)
  where
    go : (t : Bool) → has_good i (l ++ (x ∷ [])) ≡ (has_good i l || (eqb x.index i && eqb x.verdict 1)) → (t || has_good i (l ++ (x ∷ []))) ≡ ((t || has_good i l) || (eqb x.index i && eqb x.verdict 1))
    go true e = refl
    go false e = e

-- a signature that is not good, or of no backer, or of a backer that is marked, changes nothing
module _ (n : ℕ) (m : Marks) (l : List Signature) (x : Signature) (h : Marked n m l) where
  abbrev more : List Signature
  more = l ++ (x ∷ [])

  kept : ((k : ℕ) → k < n → has_good k more ≡ has_good k l) → Marked n m more
  unfolding receipts
  kept e = record { seen = λ k b. h.seen k b ∙ sym (e k b); valid = h.valid ∙ sym (count_same (λ i. has_good i more) (λ i. has_good i l) n e) }

  not_good : (ltb x.index n && eqb x.verdict 1) ≡ false → (k : ℕ) → k < n → has_good k more ≡ has_good k l
  not_good e k b = good-snoc k l x ∙ ap (λ (t : Bool). has_good k l || t) (go (eqb x.index k) refl) ∙ or-false (has_good k l)
    where
      go : (t : Bool) → eqb x.index k ≡ t → (t && eqb x.verdict 1) ≡ false
      go true q =
          let z : x.index ≡ k = eqb-true x.index k q in
          let i : ltb x.index n ≡ true = lt-ltb x.index n (omega arith) in
          sym (ap (λ (u : Bool). u && eqb x.verdict 1) i) ∙ e
      go false q = refl

  known : x.index < n → has_good x.index l ≡ true → (k : ℕ) → k < n → has_good k more ≡ has_good k l
  known b g k c = good-snoc k l x ∙ go (eqb x.index k) refl
    where
      go : (t : Bool) → eqb x.index k ≡ t → (has_good k l || (t && eqb x.verdict 1)) ≡ has_good k l
      go true q = let e : has_good k l ≡ true = ap (λ (j : ℕ). has_good j l) (sym (eqb-true x.index k q)) ∙ g in rw e
      go false q = or-false (has_good k l)

  fresh : x.index < n → n ≤ length m.seen → eqb x.verdict 1 ≡ true → has_good x.index l ≡ false → Marked n (record { seen = set m.seen x.index true; valid = m.valid + 1 }) more
  unfolding receipts
  fresh b len v g =
      record {
        seen = λ k c. go k c (ℕ_discrete k x.index);
        valid = ap (λ (j : ℕ). j + 1) h.valid ∙ sym (count-more (λ i. has_good i l) (λ i. has_good i more) n x.index b g here other);
      }
    where
      here : has_good x.index more ≡ true
      here = good-snoc x.index l x ∙ rw (g, eq-eqb x.index x.index refl, v)

      other : (k : ℕ) → k < n → (k ≡ x.index → ⊥) → has_good k l ≡ has_good k more
      other k c d = sym (good-snoc k l x ∙ rw (ne_eqb x.index k (λ e. d (sym e))) (or-false (has_good k l)))

      go : (k : ℕ) → k < n → Dec (k ≡ x.index) → get_or (set m.seen x.index true) k false ≡ has_good k more
      go k c (yes e) = ap (λ (j : ℕ). get_or (set m.seen x.index true) j false) e ∙ get_or-set_same m.seen x.index true false (omega arith) ∙ sym (ap (λ (j : ℕ). has_good j more) e ∙ here)
      go k c (no d) = get_or-set_other m.seen x.index k true false d ∙ h.seen k c ∙ other k c d

  pub marks-step : n ≤ length m.seen → Marked n (marked n m x) more
  unfolding marked
  marks-step len = go (ltb x.index n && eqb x.verdict 1) refl
    where
      second : (t u : Bool) → has_good x.index l ≡ t → not (get_or m.seen x.index false) ≡ u → x.index < n → eqb x.verdict 1 ≡ true → Marked n (cond u (record { seen = set m.seen x.index true; valid = m.valid + 1 }) m) more
      second true true g e b v = absurd (false≢true (sym (ap not (h.seen x.index b ∙ g)) ∙ e))
      second true false g e b v = kept (known b g)
      second false true g e b v = fresh b len v g
      second false false g e b v = absurd (false≢true (sym e ∙ ap not (h.seen x.index b ∙ g)))

      go : (t : Bool) → (ltb x.index n && eqb x.verdict 1) ≡ t → Marked n (cond (t && not (get_or m.seen x.index false)) (record { seen = set m.seen x.index true; valid = m.valid + 1 }) m) more
      go true e =
          second (has_good x.index l) (not (get_or m.seen x.index false)) refl refl
          (ltb-true x.index n (and_left (ltb x.index n) (eqb x.verdict 1) e))
          (and_right (ltb x.index n) (eqb x.verdict 1) e)
      go false e = kept (not_good e)

-- no list, no marks
pub no-marks : (n : ℕ) (seen : List Bool) → ((k : ℕ) → k < n → get_or seen k false ≡ false) → Marked n (record { seen = seen; valid = 0 }) []
unfolding has_good receipts
no-marks n seen e = record { seen = e; valid = sym (count_none (λ i. false) n (λ k b. refl)) }

-- there are no more marks than backers
pub count-below : (P : ℕ → Bool) (n : ℕ) → count P n ≤ n
unfolding count
count-below P zero = omega arith
count-below P (suc n) = go (P n) (count-below P n)
  where
    go : (t : Bool) → count P n ≤ n → count P n + bit t ≤ suc n
    go true h = omega arith
    go false h = omega arith

pub receipts-below : (n : ℕ) (l : List Signature) → receipts n l ≤ n
unfolding receipts
receipts-below n l = count-below (λ i. has_good i l) n

-- what a signature does to the marks, by its tests
module _ (n : ℕ) (m : Marks) (x : Signature) where
  pub marked-set : (ltb x.index n && eqb x.verdict 1) ≡ true → get_or m.seen x.index false ≡ false → record { seen = set m.seen x.index true; valid = m.valid + 1 } ≡ marked n m x
  unfolding marked
  marked-set e f = rw (e, f)

  pub marked-twice : (ltb x.index n && eqb x.verdict 1) ≡ true → get_or m.seen x.index false ≡ true → m ≡ marked n m x
  unfolding marked
  marked-twice e f = rw (e, f)

  pub marked-bad : (ltb x.index n && eqb x.verdict 1) ≡ false → m ≡ marked n m x
  unfolding marked
  marked-bad e = rw e

length_marked : (n : ℕ) (m : Marks) (x : Signature) → length (marked n m x).seen ≡ length m.seen
unfolding marked
length_marked n m x = go ((ltb x.index n && eqb x.verdict 1) && not (get_or m.seen x.index false))
  where
    go : (t : Bool) → length (cond t (record { seen = set m.seen x.index true; valid = m.valid + 1 }) m).seen ≡ length m.seen
    go true = length-set m.seen x.index true
    go false = refl

-- a turn of the walk: one signature more is read, and marked
module _ (n : ℕ) (s : List ℕ) (c : Cursor) (i : ℕ) where
  abbrev done : ℕ → Read (List Signature)
  done j = times j read_signature s c

  turn : done (i + 1) ≡ record { value = (done i).value ++ ((read_signature s (done i).next).value ∷ []); next = (read_signature s (done i).next).next }
  unfolding times
  turn = rw add-one

  pub walk_turn : (d : Cursor) (m next : Marks) (r : Read Signature) → d ≡ (done i).next → r ≡ read_signature s d → Marked n m (done i).value → n ≤ length m.seen → next ≡ marked n m r.value → (r.next ≡ (done (i + 1)).next) × Marked n next (done (i + 1)).value × (length next.seen ≡ length m.seen)
  walk_turn d m next r e f h len g =
      let q : r ≡ read_signature s (done i).next = f ∙ ap (read_signature s) e in (
        ap (λ (u : Read Signature). u.next) q ∙ sym (ap (λ (u : Read (List Signature)). u.next) turn),
        rw (turn, ← q, g) (marks-step n m (done i).value r.value h len),
        rw g (length_marked n m r.value),
      )
