-- Text: the parts around a byte, and decimal numbers.
use Rattle.std.specs.Prelude.{ℕ, zero, suc, ◌+◌, ◌-◌, ◌*◌, ◌^◌, List, Bool, true, cond, ◌&&◌, length, get_or, ◌==◌, eqb, leb, ltb, Option, Some, None}
use Rattle.std.specs.List.{before_first, after_first}

-- what stands before the first such byte: all of the text where there is none
abbrev pub head_of : ℕ → List ℕ → List ℕ
head_of b s = before_first (λ x. x == b) s

-- what stands behind it: nothing where there is none
abbrev pub rest_of : ℕ → List ℕ → List ℕ
rest_of b s = after_first (λ x. x == b) s

-- the bytes `0` to `9`
unfoldable pub is_digit : ℕ → Bool
is_digit b = leb 48 b && leb b 57

-- whether the first n are digits, and the number that they say
unfoldable pub all_digits : List ℕ → ℕ → Bool
all_digits s zero = true
all_digits s (suc n) = all_digits s n && is_digit (get_or s n 0)

unfoldable pub value_of : List ℕ → ℕ → ℕ
value_of s zero = 0
value_of s (suc n) = value_of s n * 10 + (get_or s n 0 - 48)

-- the number of the first n, where they are digits and 64 bits hold it
unfoldable pub number_to : List ℕ → ℕ → Option ℕ
number_to s n = cond (all_digits s n && ltb (value_of s n) (2 ^ 64)) (Some (value_of s n)) None

-- an empty text says no number
unfoldable pub number_of : List ℕ → Option ℕ
number_of s = cond (eqb (length s) 0) None (number_to s (length s))

-- a number with one more digit behind it
unfoldable pub with_digit : ℕ → ℕ → Option ℕ
with_digit n b = cond (is_digit b && ltb (n * 10 + (b - 48)) (2 ^ 64)) (Some (n * 10 + (b - 48))) None
