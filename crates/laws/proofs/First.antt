-- Laws of `first`: how a loop finds it, and that it is the least.
use Prim.Native.Nat.{ℕ, zero, suc, ◌<◌}
use mathlib.Core.Path.{◌≡◌, refl, ap, ◌∙◌}
use mathlib.Core.Bool.{Bool, true, false, cond}
use native.Mathlib.Omega.{arith}
use native.Mathlib.Decide.{dec_lt}
use borrow.Author.Tests.{lt-ltb, le-ltb, ltb-true, ltb-false}
use lib.Dec.{ltb}
use Rattle.laws.specs.First.{first}

module _ (P : ℕ → Bool) where
  pub first-none : (n : ℕ) → ((k : ℕ) → k < n → P k ≡ false) → first P n ≡ n
  unfolding first
  first-none zero h = refl
  first-none (suc n) h =
      let e : first P n ≡ n = first-none n (λ k l. h k (omega arith)) in
      rw (e, le-ltb n n (omega arith), h n (omega arith))

  pub first_found : (n i : ℕ) → i < n → ((k : ℕ) → k < i → P k ≡ false) → P i ≡ true → first P n ≡ i
  unfolding first
  first_found zero i l h t = absurd (omega arith)
  first_found (suc n) i l h t =
      elim (dec_lt i n) [
        | yes m ↦ let e : first P n ≡ i = first_found n i m h t in rw (e, lt-ltb i n m)
        | no m ↦
            let q : i ≡ n = omega arith in
            let e : first P n ≡ n = first-none n (λ k u. h k (omega arith)) in
            let u : P n ≡ true = rw q at t in
            rw (e, le-ltb n n (omega arith), u, q)
      ]

  -- below n, the test holds there
  pub first_holds : (n : ℕ) → first P n < n → P (first P n) ≡ true
  unfolding first
  first_holds zero l = absurd (omega arith)
  first_holds (suc n) l = go (ltb (first P n) n) refl (P n) refl (first_holds n) l
    where
      go : (a : Bool) → ltb (first P n) n ≡ a → (b : Bool) → P n ≡ b → (first P n < n → P (first P n) ≡ true) → cond a (first P n) (cond b n (suc n)) < suc n → P (cond a (first P n) (cond b n (suc n))) ≡ true
      go true e b f h k = h (ltb-true (first P n) n e)
      go false e true f h k = f
      go false e false f h k = absurd (omega arith)

  -- and at none before it
  pub first-least : (n k : ℕ) → k < first P n → P k ≡ false
  unfolding first
  first-least zero k l = absurd (omega arith)
  first-least (suc n) k l = go (ltb (first P n) n) refl (P n) refl (first-least n k) l
    where
      go : (a : Bool) → ltb (first P n) n ≡ a → (b : Bool) → P n ≡ b → (k < first P n → P k ≡ false) → k < cond a (first P n) (cond b n (suc n)) → P k ≡ false
      go true e b f h u = h u
      go false e true f h u = h (omega (arith, ltb-false (first P n) n e))
      go false e false f h u =
          elim (dec_lt k n) [ yes m ↦ h (omega (arith, ltb-false (first P n) n e)) | no m ↦ let q : k ≡ n = omega arith in ap P q ∙ f ]
