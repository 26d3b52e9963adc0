-- Big-endian numbers of any width (docs/RULES.md, "Bytes").
use Rattle.std.specs.Prelude.{ℕ, zero, suc, ◌+◌, ◌*◌, ◌/◌, ◌%◌, ◌<◌, List, [], ◌∷◌, ◌++◌, cond, get_or}
use Rattle.laws.specs.Room.{room}

-- the number in the n bytes from at; a byte past the end counts as 0
unfoldable pub number : List ℕ → ℕ → ℕ → ℕ
number s at zero = 0
number s at (suc n) = number s at n * 256 + get_or s (at + n) 0

-- the number in the n bytes from at, or 0 where they are not all there
unfoldable pub number_at : List ℕ → ℕ → ℕ → ℕ
number_at s at n = cond (room s at n) (number s at n) 0

-- the n bytes of x, the lowest last
unfoldable pub digits : ℕ → ℕ → List ℕ
digits zero x = []
digits (suc n) x = digits n (x / 256) ++ (x % 256 ∷ [])

-- every element is a byte
abbrev pub Bytes : List ℕ → Type 0
Bytes s = (i : ℕ) → get_or s i 0 < 256
