-- A list in another order.
--     Upto, upto-at          what is said of every place of a list
--     all-each               what is said of every element
--     ordered, ordered-keeps the order within classes, as a test of the places that the elements get
use Prim.Native.Nat.{ℕ, zero, suc, ◌<◌}
use mathlib.Core.Path.{◌≡◌, refl, sym, ap, ◌∙◌, subst}
use mathlib.Core.Bool.{Bool, true, false, not, ◌&&◌, ◌||◌, false≢true}
use mathlib.Core.Option.{Option, none, some, none-ne-some, some-injective}
use mathlib.Core.List.{List, [], ◌∷◌, map}
use native.Mathlib.Nat.{not-suc-le-zero, le_of_suc-le-suc}
use borrow.Author.Tests.{ltb-true}
use lib.Dec.{ltb}
use lib.ListN.{length, get_elem?}
use Rattle.laws.proofs.Tests.{and_left, and_right}
use Rattle.cesr.specs.Primitives.{eq_said}
use Rattle.cesr.proofs.Matters.{eq-said}
use Rattle.registry_verification.specs.Starred.{All}
use Rattle.ledger_step.specs.Ledgers.{eq_pair}
use Rattle.ledger_step.specs.Orders.{Each}
use Rattle.ledger_step.specs.OrderFreedom.{Class}
use Rattle.ledger_step.specs.OrderFreedom.Class.{rotations_of, attempts_on}
use Rattle.ledger_step.proofs.Rules.{pair-test}

module _ {A : Type 0} where
  abbrev pub Upto : (ℕ → Type 0) → List A → Type 0
  Upto P [] = Unit
  Upto P (x ∷ l) = P 0 × Upto (λ i. P (suc i)) l

  pub upto-at : (P : ℕ → Type 0) (l : List A) → Upto P l → (i : ℕ) → i < length l → P i
  upto-at P [] u i h = absurd (not-suc-le-zero h)
  upto-at P (x ∷ l) u zero h = u.0
  upto-at P (x ∷ l) u (suc i) h = upto-at (λ j. P (suc j)) l u.1 i (le_of_suc-le-suc h)

  pub all-each : (P : A → Type 0) (l : List A) → All P l → Each P l
  all-each P [] a i x e = absurd (none-ne-some _ e)
  all-each P (y ∷ l) a zero x e = subst P (some-injective _ _ e) a.0
  all-each P (y ∷ l) a (suc i) x e = all-each P l a.1 i x e

-- whether two attempts are in one class
abbrev pub together : Option Class → Option Class → Bool
together none d = false
together (some k) none = false
together (some (rotations_of a)) (some (rotations_of b)) = eq_said a b
together (some (rotations_of a)) (some (attempts_on b)) = false
together (some (attempts_on a)) (some (rotations_of b)) = false
together (some (attempts_on a)) (some (attempts_on b)) = eq_pair a b

together-same : (k : Class) → together (some k) (some k) ≡ true
together-same (rotations_of a) = eq-said a
together-same (attempts_on a) = pair-test.same a

-- the places that elements get, in the order of the list, with their classes: of two in one class the first gets the lower place
unfoldable pub before : ℕ → Option Class → (ℕ → ℕ) → List (Option Class) → Bool
before n c to [] = true
before n c to (d ∷ l) = (ltb n (to 0) || not (together c d)) && before n c (λ j. to (suc j)) l

unfoldable pub ordered : (ℕ → ℕ) → List (Option Class) → Bool
ordered to [] = true
ordered to (c ∷ l) = before (to 0) c (λ j. to (suc j)) l && ordered (λ j. to (suc j)) l

module _ {A : Type 0} (class : A → Option Class) where
  one_class : (a b : A) (k : Class) → class a ≡ some k → class b ≡ some k → (n i : ℕ) → (ltb n i || not (together (class a) (class b))) ≡ true → n < i
  one_class a b k e f n i = go (ltb n i) refl
    where
      go : (t : Bool) → ltb n i ≡ t → (t || not (together (class a) (class b))) ≡ true → n < i
      go true t h = ltb-true n i t
      go false t h = absurd (false≢true (sym (ap not (together-same k)) ∙ sym (rw (e, f)) ∙ h))

  before_at : (a : A) (k : Class) → class a ≡ some k → (n : ℕ) (to : ℕ → ℕ) (l : List A) → before n (class a) to (map class l) ≡ true → (j : ℕ) (y : A) → get_elem? l j ≡ some y → class y ≡ some k → n < to j
  unfolding before
  before_at a k e n to [] h j y q f = absurd (none-ne-some _ q)
  before_at a k e n to (b ∷ l) h zero y q f =
      one_class a b k e (ap class (some-injective _ _ q) ∙ f) n (to 0)
      (and_left (ltb n (to 0) || not (together (class a) (class b))) (before n (class a) (λ j. to (suc j)) (map class l)) h)
  before_at a k e n to (b ∷ l) h (suc j) y q f =
      before_at a k e n (λ i. to (suc i)) l
      (and_right (ltb n (to 0) || not (together (class a) (class b))) (before n (class a) (λ i. to (suc i)) (map class l)) h)
      j y q f

  pub ordered_at : (to : ℕ → ℕ) (l : List A) → ordered to (map class l) ≡ true → (k : Class) (i j : ℕ) (x y : A) → get_elem? l i ≡ some x → get_elem? l j ≡ some y → class x ≡ some k → class y ≡ some k → i < j → to i < to j
  unfolding ordered
  ordered_at to [] h k i j x y p q e f o = absurd (none-ne-some _ p)
  ordered_at to (a ∷ l) h k i zero x y p q e f o = absurd (not-suc-le-zero o)
  ordered_at to (a ∷ l) h k zero (suc j) x y p q e f o =
      before_at a k (ap class (some-injective _ _ p) ∙ e) (to 0) (λ n. to (suc n)) l
      (and_left (before (to 0) (class a) (λ n. to (suc n)) (map class l)) (ordered (λ n. to (suc n)) (map class l)) h)
      j y q f
  ordered_at to (a ∷ l) h k (suc i) (suc j) x y p q e f o =
      ordered_at (λ n. to (suc n)) l
      (and_right (before (to 0) (class a) (λ n. to (suc n)) (map class l)) (ordered (λ n. to (suc n)) (map class l)) h)
      k i j x y p q e f (le_of_suc-le-suc o)
