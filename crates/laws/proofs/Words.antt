-- Laws of `same_list`: it says that two lists are equal, and a loop that compares them place by place finds it.
use Prim.Native.Nat.{ℕ, ◌<◌}
use mathlib.Core.Path.{◌≡◌, refl, ap, ap₂}
use mathlib.Core.List.{List, [], ◌∷◌}
use mathlib.Core.Bool.{Bool, true, false, false≢true}
use borrow.Author.Tests.{eq-eqb, eqb-true}
use lib.Dec.{eqb}
use lib.ListN.{length, get_or}
use lib.Seq.{ext_get_or}
use Rattle.laws.specs.Words.{same_list}
use Rattle.laws.proofs.Tests.{and_left, and_right}

pub same_refl : (a : List ℕ) → same_list a a ≡ true
unfolding same_list
same_refl [] = refl
same_refl (x ∷ a) = rw (eq-eqb x x refl, same_refl a)

-- it is true of equal lists alone
pub same-equal : (a b : List ℕ) → same_list a b ≡ true → a ≡ b
unfolding same_list
same-equal [] [] e = refl
same-equal [] (y ∷ b) e = absurd (false≢true e)
same-equal (x ∷ a) [] e = absurd (false≢true e)
same-equal (x ∷ a) (y ∷ b) e =
    ap₂ (λ (z : ℕ) (l : List ℕ). z ∷ l) (eqb-true x y (and_left (eqb x y) (same_list a b) e)) (same-equal a b (and_right (eqb x y) (same_list a b) e))

differs : (a b : List ℕ) → (a ≡ b → ⊥) → same_list a b ≡ false
differs a b h = go (same_list a b) refl
  where
    go : (t : Bool) → same_list a b ≡ t → same_list a b ≡ false
    go true e = absurd (h (same-equal a b e))
    go false e = e

-- lists of two lengths differ
pub same-lengths : (a b : List ℕ) → (length a ≡ length b → ⊥) → same_list a b ≡ false
same-lengths a b h = differs a b (λ e. h (ap length e))

-- lists that differ at a place differ
pub same-differ : (a b : List ℕ) (i : ℕ) → (get_or a i 0 ≡ get_or b i 0 → ⊥) → same_list a b ≡ false
same-differ a b i h = differs a b (λ e. h (ap (λ (l : List ℕ). get_or l i 0) e))

-- lists that agree at every place are equal
pub same-agree : (a b : List ℕ) → length a ≡ length b → ((i : ℕ) → i < length a → get_or a i 0 ≡ get_or b i 0) → same_list a b ≡ true
same-agree a b e h = rw (ext_get_or 0 a b e h) (same_refl b)
