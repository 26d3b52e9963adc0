-- The first place at which a test holds.
use Rattle.std.specs.Prelude.{ℕ, zero, suc, Bool, cond, ltb}

-- the least i below n at which P holds, or n where there is none
unfoldable pub first : (ℕ → Bool) → ℕ → ℕ
first P zero = zero
first P (suc n) = cond (ltb (first P n) n) (first P n) (cond (P n) n (suc n))
