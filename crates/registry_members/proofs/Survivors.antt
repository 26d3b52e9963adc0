-- Laws of the members after a rotation.
use Prim.Native.Nat.{ℕ, zero, suc, ◌+◌, ◌<◌, ◌≤◌}
use mathlib.Core.Path.{◌≡◌, refl, ap}
use mathlib.Core.List.{List, [], ◌∷◌, ◌++◌}
use mathlib.Core.Bool.{Bool, true, false, cond}
use native.Mathlib.Omega.{arith}
use borrow.Author.Tests.{lt-leb}
use lib.Dec.{leb}
use lib.ListN.{length, length-append, take}
use lib.Seq.{length-take-le}
use Rattle.laws.proofs.Views.{take_step}
use Rattle.cesr.specs.declared.BasicPrefix.{BasicPrefix}
use Rattle.events.specs.Members.{has, at, no_prefix}
use Rattle.registry_members.specs.Updated.{survivors, updated_members}

pub survivors-snoc : (cuts a : List BasicPrefix) (x : BasicPrefix) → survivors cuts (a ++ (x ∷ [])) ≡ cond (has x cuts) (survivors cuts a) (survivors cuts a ++ (x ∷ []))
unfolding survivors
survivors-snoc cuts [] x = refl
survivors-snoc cuts (y ∷ a) x = split (survivors cuts a) (has y cuts) (has x cuts) (survivors-snoc cuts a x)
  where
    split : {u : List BasicPrefix} (v : List BasicPrefix) (p q : Bool) → u ≡ cond q v (v ++ (x ∷ [])) → cond p u (y ∷ u) ≡ cond q (cond p v (y ∷ v)) (cond p v (y ∷ v) ++ (x ∷ []))
    split v true q e = e
    split v false true e = ap (λ (r : List BasicPrefix). y ∷ r) e
    split v false false e = ap (λ (r : List BasicPrefix). y ∷ r) e

-- one member more is looked at
pub survivors-step : (cuts l : List BasicPrefix) (i : ℕ) → i < length l → survivors cuts (take (i + 1) l) ≡ cond (has (at l i) cuts) (survivors cuts (take i l)) (survivors cuts (take i l) ++ (at l i ∷ []))
survivors-step cuts l i h = rw (take_step l i no_prefix h) (survivors-snoc cuts (take i l) (at l i))

-- and how many survive then
pub survivors-count : (cuts l : List BasicPrefix) (i n : ℕ) (x : BasicPrefix) (t : Bool) → i < length l → x ≡ at l i → t ≡ has x cuts → n ≡ length (survivors cuts (take i l)) → cond t n (n + 1) ≡ length (survivors cuts (take (i + 1) l))
survivors-count cuts l i n x t b e f h = rw (survivors-step cuts l i b, ← e, ← f) (go t)
  where
    go : (t : Bool) → cond t n (n + 1) ≡ length (cond t (survivors cuts (take i l)) (survivors cuts (take i l) ++ (x ∷ [])))
    go true = h
    go false = rw (length-append, h) refl

-- no more survive than there were
pub survivors-fewer : (cuts l : List BasicPrefix) → length (survivors cuts l) ≤ length l
unfolding survivors
survivors-fewer cuts [] = omega arith
survivors-fewer cuts (x ∷ l) = go (has x cuts) (survivors-fewer cuts l)
  where
    go : (t : Bool) → length (survivors cuts l) ≤ length l → length (cond t (survivors cuts l) (x ∷ survivors cuts l)) ≤ suc (length l)
    go true h = omega arith
    go false h = omega arith

-- of fewer members no more survive
pub survivors-front : (cuts l : List BasicPrefix) (i : ℕ) → length (survivors cuts (take i l)) ≤ length (survivors cuts l)
unfolding survivors
survivors-front cuts l zero = omega arith
survivors-front cuts [] (suc i) = omega arith
survivors-front cuts (x ∷ l) (suc i) = go (has x cuts) (survivors-front cuts l i)
  where
    go : (t : Bool) → length (survivors cuts (take i l)) ≤ length (survivors cuts l) → length (cond t (survivors cuts (take i l)) (x ∷ survivors cuts (take i l))) ≤ length (cond t (survivors cuts l) (x ∷ survivors cuts l))
    go true h = h
    go false h = omega arith

-- where there is no room for a survivor, or for an addition behind them, there are more than 16 members
module _ (l cuts additions : List BasicPrefix) where
  pub no_room-survivor : (i : ℕ) → i < length l → has (at l i) cuts ≡ false → 16 ≤ length (survivors cuts (take i l)) → leb (length (updated_members l cuts additions)) 16 ≡ false
  unfolding updated_members
  no_room-survivor i b h full =
      let more : length (survivors cuts (take (i + 1) l)) ≡ length (survivors cuts (take i l)) + 1 = rw (survivors-step cuts l i b, h) (length-append (survivors cuts (take i l)) (at l i ∷ [])) in
      lt-leb (length (survivors cuts l ++ additions)) 16 (omega (arith, more, survivors-front cuts l (i + 1), length-append (survivors cuts l) additions))

  pub no_room-addition : (k : ℕ) → k < length additions → 16 ≤ length (survivors cuts l ++ take k additions) → leb (length (updated_members l cuts additions)) 16 ≡ false
  unfolding updated_members
  no_room-addition k b full =
      lt-leb (length (survivors cuts l ++ additions)) 16 (omega (arith, length-append (survivors cuts l) additions, length-append (survivors cuts l) (take k additions), length-take-le k additions (omega arith)))
