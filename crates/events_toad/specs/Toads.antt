-- Thresholds of receipts (docs/RULES.md, "Thresholds").
use Rattle.std.specs.Prelude.{ℕ, ◌+◌, ◌-◌, ◌/◌, min, max, Bool, cond, ◌&&◌, eqb, leb, Result, Ok, Err}
use Rattle.events_toad.specs.declared.Toad.{Toad}
use Rattle.events_toad.specs.declared.ToadError.{ToadError}
use Rattle.events_toad.specs.declared.ToadError.TheVariants.{OutOfRange, Overflow}

abbrev pub toad_of : ℕ → Toad
toad_of t = record { 0 = t }

-- the refusal's number: 26 where there is no threshold
abbrev pub toad_number : Result Toad ToadError → ℕ
toad_number (Ok t) = 0
toad_number (Err e) = 26

-- zero backers need 0, otherwise 1 to the count
unfoldable pub exact_ok : ℕ → ℕ → Bool
exact_ok t n = cond (eqb n 0) (eqb t 0) (leb 1 t && leb t n)

unfoldable pub exact_of : ℕ → ℕ → Result Toad ToadError
exact_of t n = cond (exact_ok t n) (Ok (toad_of t)) (Err (OutOfRange t n))

-- a / b, rounded up
unfoldable pub ceil : ℕ → ℕ → ℕ
ceil a b = (a + (b - 1)) / b

-- the least number of witnesses that is a strong majority of n, where f of them are faulty
unfoldable pub strong_majority : ℕ → ℕ → ℕ
strong_majority n f = ceil (n + f + 1) 2

-- 0 for 0; else the least of n and the strong majorities for a third of n - 1, rounded down and rounded up, but never below 1
unfoldable pub least_of : ℕ → ℕ
least_of n =
    cond (eqb n 0) 0 (min n (min (strong_majority n (max 1 ((n - 1) / 3))) (strong_majority n (max 1 (ceil (n - 1) 3)))))

-- that number, where 32 bits hold it
unfoldable pub ample_of : ℕ → Result Toad ToadError
ample_of n = cond (leb (least_of n) 4294967295) (Ok (toad_of (least_of n))) (Err (Overflow n))
