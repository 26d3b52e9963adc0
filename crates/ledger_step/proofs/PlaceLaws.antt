-- Laws of places: what `find`, `put` and `distinct` of tables say of the place at which a key is first found.
--     place-nil, place-cons       the place, from the head of the list
--     find-place, put-place       finding and replacing, by place
--     has-place                   whether a key is there, by place
--     places-apart, not-apart     keys are distinct where each element stands at the place of its key, and there alone
--     get_d_any, set_past          a place within a list, and one past its end
use Prim.Native.Nat.{ℕ, zero, suc, ◌<◌, ◌≤◌}
use mathlib.Core.Path.{◌≡◌, refl, ap, sym, ◌∙◌}
use mathlib.Core.Bool.{Bool, true, false, cond, not, true≢false}
use mathlib.Core.Option.{none, some}
use mathlib.Core.List.{List, [], ◌∷◌, map}
use native.Mathlib.Omega.{arith}
use borrow.Author.Tests.{lt-ltb, ltb-true, not-true}
use lib.Dec.{ltb, leb-suc-suc}
use lib.ListN.{length, get_or, set}
use Rattle.laws.specs.First.{first}
use Rattle.laws.proofs.First.{first_holds}
use Rattle.laws.proofs.Tests.{and_left, and_right}
use Rattle.ledger_step.specs.Tables.{has, distinct, find, put, found, place}
use Rattle.ledger_step.proofs.TableLaws.{Tests, has-find}

pub get_d_any : {A : Type 0} (l : List A) (i : ℕ) (d e : A) → i < length l → get_or l i d ≡ get_or l i e
get_d_any [] i d e b = absurd (omega arith)
get_d_any (x ∷ l) zero d e b = refl
get_d_any (x ∷ l) (suc i) d e b = get_d_any l i d e (omega arith)

pub set_past : {A : Type 0} (l : List A) (i : ℕ) (x : A) → length l ≤ i → set l i x ≡ l
set_past [] i x b = refl
set_past (y ∷ l) zero x b = absurd (omega arith)
set_past {A} (y ∷ l) (suc i) x b = ap (λ (r : List A). y ∷ r) (set_past l i x (omega arith))

first-zero : (P : ℕ → Bool) → first P 0 ≡ 0
unfolding first
first-zero P = refl

first-suc : (P : ℕ → Bool) (n : ℕ) → first P (suc n) ≡ cond (ltb (first P n) n) (first P n) (cond (P n) n (suc n))
unfolding first
first-suc P n = refl

-- from the other end: at 0, or one further on
first-cons : (P : ℕ → Bool) (n : ℕ) → first P (suc n) ≡ cond (P 0) 0 (suc (first (λ i. P (suc i)) n))
first-cons P zero = first-suc P 0 ∙ rw (first-zero P, first-zero (λ i. P (suc i)))
first-cons P (suc n) =
    first-suc P (suc n) ∙ rw (first-cons P n, first-suc (λ i. P (suc i)) n) (go (P 0) (first (λ i. P (suc i)) n) (P (suc n)))
  where
    shifted : (a b : Bool) (f : ℕ) → cond a (suc f) (cond b (suc n) (suc (suc n))) ≡ suc (cond a f (cond b n (suc n)))
    shifted true b f = refl
    shifted false true f = refl
    shifted false false f = refl

    go : (a : Bool) (f : ℕ) (b : Bool) → cond (ltb (cond a 0 (suc f)) (suc n)) (cond a 0 (suc f)) (cond b (suc n) (suc (suc n))) ≡ cond a 0 (suc (cond (ltb f n) f (cond b n (suc n))))
    go true f b = rw (lt-ltb 0 (suc n) (omega arith))
    go false f b = rw (leb-suc-suc (suc f) n) (shifted (ltb f n) b f)

found-cond : {X : Type 0} (b : Bool) (x : X) → found (cond b (some x) none) ≡ b
found-cond true x = refl
found-cond false x = refl

module _ {X K : Type 0} (key : X → K) (eq : K → K → Bool) (blank : X) where
  pub place-nil : (k : K) → place key eq blank k [] ≡ 0
  unfolding place
  place-nil k = first-zero (λ i. eq (key (get_or [] i blank)) k)

  pub place-cons : (k : K) (x : X) (l : List X) → place key eq blank k (x ∷ l) ≡ cond (eq (key x) k) 0 (suc (place key eq blank k l))
  unfolding place
  place-cons k x l = first-cons (λ i. eq (key (get_or (x ∷ l) i blank)) k) (length l)

  -- an element is found exactly where the place is within the list, and then it is the one there
  pub find-place : (k : K) (l : List X) → find key eq k l ≡ cond (ltb (place key eq blank k l) (length l)) (some (get_or l (place key eq blank k l) blank)) none
  unfolding find
  find-place k [] = rw (place-nil k)
  find-place k (x ∷ l) = rw (place-cons k x l) (go (eq (key x) k) (place key eq blank k l) (find-place k l))
    where
      go : (b : Bool) (p : ℕ) → find key eq k l ≡ cond (ltb p (length l)) (some (get_or l p blank)) none → cond b (some x) (find key eq k l) ≡ cond (ltb (cond b 0 (suc p)) (suc (length l))) (some (get_or (x ∷ l) (cond b 0 (suc p)) blank)) none
      go true p ih = rw (lt-ltb 0 (suc (length l)) (omega arith))
      go false p ih = rw (leb-suc-suc (suc p) (length l)) ih

  -- a replacement is a store at the place: where there is none, nothing is stored
  pub put-place : (k : K) (x : X) (l : List X) → put key eq k x l ≡ set l (place key eq blank k l) x
  unfolding put
  put-place k x [] = refl
  put-place k x (y ∷ l) = rw (place-cons k y l) (go (eq (key y) k) (place key eq blank k l) (put-place k x l))
    where
      go : (b : Bool) (p : ℕ) → put key eq k x l ≡ set l p x → cond b (x ∷ l) (y ∷ put key eq k x l) ≡ set (y ∷ l) (cond b 0 (suc p)) x
      go true p ih = refl
      go false p ih = ap (λ (r : List X). y ∷ r) ih

  -- a key is in the table exactly where its place is within it
  pub has-place : (k : K) (l : List X) → has eq k (map key l) ≡ ltb (place key eq blank k l) (length l)
  has-place k l =
      has-find key eq k l ∙ rw (find-place k l) (found-cond (ltb (place key eq blank k l) (length l)) (get_or l (place key eq blank k l) blank))

  place-holds : (k : K) (l : List X) → place key eq blank k l < length l → eq (key (get_or l (place key eq blank k l) blank)) k ≡ true
  unfolding place
  place-holds k l b = first_holds (λ i. eq (key (get_or l i blank)) k) (length l) b

  module _ (test : Tests eq) where
    apart-places : (l : List X) → distinct eq (map key l) ≡ true → (i : ℕ) → i < length l → place key eq blank (key (get_or l i blank)) l ≡ i
    unfolding distinct
    apart-places [] d i b = absurd (omega arith)
    apart-places (x ∷ l) d zero b = place-cons (key x) x l ∙ rw (test.same (key x))
    apart-places (x ∷ l) d (suc i) b =
        let fresh = not-true (has eq (key x) (map key l)) (and_left (not (has eq (key x) (map key l))) (distinct eq (map key l)) d) in
        let e = apart-places l (and_right (not (has eq (key x) (map key l))) (distinct eq (map key l)) d) i (omega arith) in
        place-cons (key (get_or l i blank)) x l ∙ rw e (go (eq (key x) (key (get_or l i blank))) refl fresh e)
      where
        go : (t : Bool) → eq (key x) (key (get_or l i blank)) ≡ t → has eq (key x) (map key l) ≡ false → place key eq blank (key (get_or l i blank)) l ≡ i → cond t 0 (suc i) ≡ suc i
        go true q fresh e =
            let p : place key eq blank (key x) l ≡ i = rw (test.equal (key x) (key (get_or l i blank)) q) e in
            absurd (true≢false (sym (lt-ltb i (length l) (omega arith)) ∙ ap (λ (n : ℕ). ltb n (length l)) (sym p) ∙ sym (has-place (key x) l) ∙ fresh))
        go false q fresh e = refl

    pub places-apart : (l : List X) → ((i : ℕ) → i < length l → place key eq blank (key (get_or l i blank)) l ≡ i) → distinct eq (map key l) ≡ true
    unfolding distinct
    places-apart [] h = refl
    places-apart (x ∷ l) h =
        rw (go (has eq (key x) (map key l)) refl) (places-apart l (λ i b. rest i (eq (key x) (key (get_or l i blank))) (sym (place-cons (key (get_or l i blank)) x l) ∙ h (suc i) (omega arith))))
      where
        rest : (i : ℕ) (t : Bool) → cond t 0 (suc (place key eq blank (key (get_or l i blank)) l)) ≡ suc i → place key eq blank (key (get_or l i blank)) l ≡ i
        rest i true e = absurd (omega (arith, e))
        rest i false e = omega (arith, e)

        go : (t : Bool) → has eq (key x) (map key l) ≡ t → t ≡ false
        go false q = refl
        go true q =
            let p = place key eq blank (key x) l in
            let b : p < length l = ltb-true p (length l) (sym (has-place (key x) l) ∙ q) in
            let s : key (get_or l p blank) ≡ key x = test.equal (key (get_or l p blank)) (key x) (place-holds (key x) l b) in
            let e : place key eq blank (key x) (x ∷ l) ≡ suc p = ap (λ (k : K). place key eq blank k (x ∷ l)) (sym s) ∙ h (suc p) (omega (arith, b)) in
            let z : place key eq blank (key x) (x ∷ l) ≡ 0 = place-cons (key x) x l ∙ rw (test.same (key x)) in
            absurd (omega (arith, e, z))

    pub not-apart : (l : List X) (i : ℕ) → i < length l → (place key eq blank (key (get_or l i blank)) l ≡ i → ⊥) → distinct eq (map key l) ≡ false
    not-apart l i b h = go (distinct eq (map key l)) refl
      where
        go : (t : Bool) → distinct eq (map key l) ≡ t → t ≡ false
        go false e = refl
        go true e = absurd (h (apart-places l e i b))
