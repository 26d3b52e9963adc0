-- Laws of `count`.
--     count_same    tests that agree below n have the same count
--     count-more    a test that holds at one place more has a count one higher
use Prim.Native.Nat.{ℕ, zero, suc, ◌+◌, ◌<◌}
use mathlib.Core.Path.{◌≡◌, refl, ap, ap₂}
use mathlib.Core.Bool.{Bool, true, false, cond}
use native.Mathlib.Omega.{arith}
use native.Mathlib.Decide.{dec_lt}
use Rattle.laws.specs.Count.{count}

pub count_same : (P Q : ℕ → Bool) (n : ℕ) → ((k : ℕ) → k < n → P k ≡ Q k) → count P n ≡ count Q n
unfolding count
count_same P Q zero h = refl
count_same P Q (suc n) h = ap₂ (λ (a b : ℕ). a + b) (count_same P Q n (λ k l. h k (omega arith))) (ap (λ (b : Bool). cond b 1 0) (h n (omega arith)))

pub count-more : (P Q : ℕ → Bool) (n i : ℕ) → i < n → P i ≡ false → Q i ≡ true → ((k : ℕ) → k < n → (k ≡ i → ⊥) → P k ≡ Q k) → count Q n ≡ count P n + 1
unfolding count
count-more P Q zero i l p q h = absurd (omega arith)
count-more P Q (suc n) i l p q h =
    elim (dec_lt i n) [
      | yes m ↦
          let e = count-more P Q n i m p q (λ k u v. h k (omega arith) v) in
          let f : P n ≡ Q n = h n (omega arith) (λ z. omega arith) in
          rw (f, e) (omega arith)
      | no m ↦
          let z : i ≡ n = omega arith in
          let e = count_same P Q n (λ k u. h k (omega arith) (λ w. omega arith)) in
          let p' : P n ≡ false = rw z at p in
          let q' : Q n ≡ true = rw z at q in
          rw (p', q', e) (omega arith)
    ]

pub count_none : (P : ℕ → Bool) (n : ℕ) → ((k : ℕ) → k < n → P k ≡ false) → count P n ≡ 0
unfolding count
count_none P zero h = refl
count_none P (suc n) h = rw (count_none P n (λ k l. h k (omega arith)), h n (omega arith))
