-- A run of elements within a list: whether it is there, and how it is stored.
use Rattle.std.specs.Prelude.{ℕ, ◌+◌, List, Bool, cond, length, leb}
use Rattle.std.proofs.lemmas.List.Edits.{sets}

module _ {A : Type 0} where
  -- whether l has n elements from at
  unfoldable pub room : List A → ℕ → ℕ → Bool
  room l at n = leb (at + n) (length l)

  -- vs stored from at on, all of them where l has room for them, else none
  unfoldable pub put : List A → ℕ → List A → List A
  put l at vs = cond (room l at (length vs)) (sets l at vs) l
