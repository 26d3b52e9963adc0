-- Tests of a list, and of one with one element more behind it.
--     has-any          whether a key is in it, as a search through it says
--     has-snoc         whether a key is in it
--     distinct_snoc    whether no two of it are equal
use mathlib.Core.Path.{◌≡◌, refl, sym, ap, ◌∙◌}
use mathlib.Core.Bool.{Bool, true, false, not, ◌&&◌, ◌||◌, or-false, or_assoc, and-false, true≢false}
use mathlib.Core.List.{List, [], ◌∷◌, ◌++◌}
use Rattle.std.specs.List.{list_any}
use Rattle.ledger_step.specs.Tables.{has, distinct}
use Rattle.ledger_step.proofs.TableLaws.{Tests}

module _ {K : Type 0} (eq : K → K → Bool) where
  pub has-any : (k : K) (l : List K) → list_any (λ a. eq a k) l ≡ has eq k l
  unfolding has
  has-any k [] = refl
  has-any k (a ∷ l) = ap (λ (t : Bool). eq a k || t) (has-any k l)

  pub has-snoc : (k a : K) (l : List K) → has eq k (l ++ (a ∷ [])) ≡ (has eq k l || eq a k)
  unfolding has
  has-snoc k a [] = or-false (eq a k)
  has-snoc k a (b ∷ l) = ap (λ (t : Bool). eq b k || t) (has-snoc k a l) ∙ sym (or_assoc (eq b k) (has eq k l) (eq a k))

  module _ (test : Tests eq) where
    turned : (a b : K) → eq a b ≡ eq b a
    turned a b = go (eq a b) refl (eq b a) refl
      where
        go : (x : Bool) → eq a b ≡ x → (y : Bool) → eq b a ≡ y → x ≡ y
        go true e true f = refl
        go true e false f = absurd (true≢false (sym (test.same b) ∙ ap (eq b) (sym (test.equal a b e)) ∙ f))
        go false e true f = absurd (true≢false (sym (test.same a) ∙ ap (eq a) (sym (test.equal b a f)) ∙ e))
        go false e false f = refl

    pub distinct_snoc : (l : List K) (k : K) → distinct eq (l ++ (k ∷ [])) ≡ (distinct eq l && not (has eq k l))
    unfolding distinct has
    distinct_snoc [] k = refl
    distinct_snoc (a ∷ l) k =
        rw (has-snoc a k l, distinct_snoc l k, turned k a) (go (has eq a l) (eq a k) (distinct eq l) (has eq k l))
      where
        go : (p q d h : Bool) → (not (p || q) && (d && not h)) ≡ ((not p && d) && not (q || h))
        go true q d h = refl
        go false true d h = sym (and-false d)
        go false false d h = refl
