-- How often a test holds.
use Rattle.std.specs.Prelude.{ℕ, zero, suc, ◌+◌, Bool, cond}

-- the number of places below n at which P holds
unfoldable pub count : (ℕ → Bool) → ℕ → ℕ
count P zero = 0
count P (suc n) = count P n + cond (P n) 1 0
