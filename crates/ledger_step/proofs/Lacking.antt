-- How many of some keys a table lacks.
--     lacking-within, lacking-one      at most all of them; at least one, where one is not found
--     lacking-append, lacking-put      a new element with a key of them: one less; a replacement: as many
use Prim.Native.Nat.{ℕ, ◌+◌, ◌≤◌, ◌<◌, suc}
use mathlib.Core.Path.{◌≡◌, refl, ap}
use mathlib.Core.Bool.{Bool, true, false, cond}
use mathlib.Core.Option.{Option, none, some}
use mathlib.Core.List.{List, [], ◌∷◌, ◌++◌, Memᴰ}
use native.Mathlib.Omega.{arith}
use lib.ListN.{length}
use Rattle.ledger_step.specs.Tables.{find, put}
use Rattle.ledger_step.proofs.TableLaws.{Tests, over, behind, find-append, find-put}

abbrev lack : {X : Type 0} → Option X → ℕ
lack none = 1
lack (some x) = 0

module _ {X K : Type 0} (key : X → K) (eq : K → K → Bool) where
  unfoldable pub lacking : List K → List X → ℕ
  lacking [] l = 0
  lacking (k ∷ ks) l = lack (find key eq k l) + lacking ks l

  pub lacking-within : (ks : List K) (l : List X) → lacking ks l ≤ length ks
  unfolding lacking
  lacking-within [] l = omega arith
  lacking-within (k ∷ ks) l = go (find key eq k l) (lacking-within ks l)
    where
      go : (o : Option X) → lacking ks l ≤ length ks → lack o + lacking ks l ≤ suc (length ks)
      go none ih = omega arith
      go (some x) ih = omega arith

  lacking-of : (l : List X) (k : K) (ks : List K) → Memᴰ k ks → find key eq k l ≡ none → 1 ≤ lacking ks l
  unfolding lacking
  lacking-of l k ks (Memᴰ.head {x = a} {xs = al} p) e = let q : find key eq a l ≡ none = rw p at e in rw q (omega arith)
  lacking-of l k ks (Memᴰ.tail {x = a} {xs = al} m) e = omega (arith, lacking-of l k al m e)

  pub lacking-one : (ks : List K) (l : List X) (k : K) → Memᴰ k ks → find key eq k l ≡ none → 1 ≤ lacking ks l
  lacking-one ks l k m e = lacking-of l k ks m e

  lack-append : (k : K) (l : List X) (x : X) → lack (find key eq k (l ++ (x ∷ []))) ≤ lack (find key eq k l)
  lack-append k l x = rw (find-append key eq k l x) (go (find key eq k l) (eq (key x) k))
    where
      go : (o : Option X) (b : Bool) → lack (behind o (cond b (some x) none)) ≤ lack o
      go none true = omega arith
      go none false = omega arith
      go (some y) b = omega arith

  lacking-no-more : (ks : List K) (l : List X) (x : X) → lacking ks (l ++ (x ∷ [])) ≤ lacking ks l
  unfolding lacking
  lacking-no-more [] l x = omega arith
  lacking-no-more (k ∷ ks) l x = omega (arith, lack-append k l x, lacking-no-more ks l x)

  module _ (test : Tests eq) where
    lacking-behind : (l : List X) (x : X) (ks : List K) → Memᴰ (key x) ks → find key eq (key x) l ≡ none → lacking ks (l ++ (x ∷ [])) < lacking ks l
    unfolding lacking
    lacking-behind l x ks (Memᴰ.head {x = a} {xs = al} p) e =
        let q : find key eq a l ≡ none = rw p at e in
        rw (find-append key eq a l x, q, ← p, test.same (key x)) (omega (arith, lacking-no-more al l x))
    lacking-behind l x ks (Memᴰ.tail {x = a} {xs = al} m) e = omega (arith, lack-append a l x, lacking-behind l x al m e)

    pub lacking-append : (ks : List K) (l : List X) (x : X) → Memᴰ (key x) ks → find key eq (key x) l ≡ none → lacking ks (l ++ (x ∷ [])) < lacking ks l
    lacking-append ks l x m e = lacking-behind l x ks m e

    pub lacking-put : (ks : List K) (k : K) (x : X) (l : List X) → key x ≡ k → lacking ks (put key eq k x l) ≡ lacking ks l
    unfolding lacking
    lacking-put [] k x l e = refl
    lacking-put (a ∷ ks) k x l e =
        rw (find-put key eq test a k x l e, lacking-put ks k x l e) (ap (λ (n : ℕ). n + lacking ks l) (go (eq k a) (find key eq a l)))
      where
        go : (b : Bool) (o : Option X) → lack (over b x o) ≡ lack o
        go false o = refl
        go true none = refl
        go true (some y) = refl
