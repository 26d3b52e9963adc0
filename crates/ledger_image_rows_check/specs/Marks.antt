-- Which rows before a row can have its key, told by the first word of the credential.
use Rattle.std.specs.Prelude.{ℕ, ◌+◌, ◌*◌, ◌≤◌, ◌<◌, ◌≡◌, List}
use Rattle.laws.specs.Number.{number_at}

-- the first word of the credential of row i of those that stand from a place on
unfoldable pub word_of : List ℕ → ℕ → ℕ → ℕ
word_of s at i = number_at s (at + 115 * i + 34) 8

-- of the rows before row i, those behind the first n have another first word
abbrev pub OthersDiffer : List ℕ → ℕ → ℕ → ℕ → Type 0
OthersDiffer s at i n = (n ≤ i) × ((k : ℕ) → n ≤ k → k < i → word_of s at k ≡ word_of s at i → ⊥)
