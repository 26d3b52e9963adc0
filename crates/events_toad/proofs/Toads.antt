-- Laws of thresholds.
--     fits_below, below-fits         the first count that overflows is 6,442,450,943
--     ample-valid, ample-overflow    so what `ample_of` answers on each side of it
--     ample-exact                    the ample threshold is one that `exact_ok` lets through
--     exact-number, ample-number     the refusal's number
use Prim.Native.Nat.{ℕ, ◌-◌, ◌/◌, ◌<◌, ◌≤◌, min, max}
use mathlib.Core.Path.{◌≡◌, refl}
use mathlib.Core.Bool.{Bool, true, false, cond}
use native.Mathlib.Omega.{arith}
use native.Mathlib.Decide.{dec_lt}
use borrow.Author.Tests.{le-leb, lt-leb, ne_eqb}
use lib.Dec.{leb}
use Rattle.std.proofs.Common.{Ok, Err}
use Rattle.events_toad.specs.declared.ToadError.TheVariants.{OutOfRange, Overflow}
use Rattle.events_toad.specs.Toads.{toad_of, toad_number, exact_ok, exact_of, ceil, strong_majority, least_of, ample_of}

-- one rule for 0 and for every other count
least-any : (n : ℕ) → least_of n ≡ min n (min (strong_majority n (max 1 ((n - 1) / 3))) (strong_majority n (max 1 (ceil (n - 1) 3))))
unfolding least_of strong_majority ceil
least-any n = elim (dec_lt 0 n) [ yes p ↦ rw (ne_eqb n 0 (λ e. omega arith)) | no p ↦ let z : n ≡ 0 = omega arith in rw z ]

pub fits_below : (n : ℕ) → least_of n ≤ 4294967295 → n < 6442450943
unfolding strong_majority ceil
fits_below n h = omega (arith, least-any n)

pub below-fits : (n : ℕ) → n < 6442450943 → least_of n ≤ 4294967295
unfolding strong_majority ceil
below-fits n h = omega (arith, least-any n)

pub ample-valid : (n : ℕ) → n < 6442450943 → ample_of n ≡ Ok (toad_of (least_of n))
unfolding ample_of
ample-valid n h = rw (le-leb (least_of n) 4294967295 (below-fits n h))

pub ample-overflow : (n : ℕ) → 6442450943 ≤ n → ample_of n ≡ Err (Overflow n)
unfolding ample_of
ample-overflow n h =
    let l : 4294967295 < least_of n = elim (dec_lt 4294967295 (least_of n)) [ yes p ↦ p | no p ↦ absurd (omega (arith, fits_below n (omega arith))) ] in
    rw (lt-leb (least_of n) 4294967295 l)

pub ample-exact : (n : ℕ) → exact_ok (least_of n) n ≡ true
unfolding exact_ok strong_majority ceil
ample-exact n =
    elim (dec_lt 0 n) [
      | yes p ↦ rw (ne_eqb n 0 (λ e. omega arith), le-leb 1 (least_of n) (omega (arith, least-any n)), le-leb (least_of n) n (omega (arith, least-any n)))
      | no p ↦ let z : n ≡ 0 = omega arith in rw (z, least-any 0)
    ]

pub exact-number : (t n : ℕ) → toad_number (exact_of t n) ≡ cond (exact_ok t n) 0 26
unfolding exact_of
exact-number t n = go (exact_ok t n)
  where
    go : (b : Bool) → toad_number (cond b (Ok (toad_of t)) (Err (OutOfRange t n))) ≡ cond b 0 26
    go true = refl
    go false = refl

pub ample-number : (n : ℕ) → toad_number (ample_of n) ≡ cond (leb (least_of n) 4294967295) 0 26
unfolding ample_of
ample-number n = go (leb (least_of n) 4294967295)
  where
    go : (b : Bool) → toad_number (cond b (Ok (toad_of (least_of n))) (Err (Overflow n))) ≡ cond b 0 26
    go true = refl
    go false = refl
