-- Receipts of backers (docs/RULES.md, "Receipts").
use Rattle.std.specs.Prelude.{ℕ, ◌+◌, List, [], ◌∷◌, Bool, true, false, not, cond, ◌&&◌, ◌||◌, eqb, ltb, get_or, set}
use Rattle.laws.specs.Count.{count}
use Rattle.registry_signatures.specs.declared.Signature.{Signature}

-- whether an index has a good signature
unfoldable pub has_good : ℕ → List Signature → Bool
has_good i [] = false
has_good i (x ∷ l) = (eqb x.index i && eqb x.verdict 1) || has_good i l

-- the number of different indices below the number of backers that have a good signature
unfoldable pub receipts : ℕ → List Signature → ℕ
receipts n l = count (λ i. has_good i l) n

-- a mark for each backer, and how many are set
pub record Marks : Type 0 where
  pub seen : List Bool
  pub valid : ℕ

-- a good signature sets the mark of its backer, where that is not set yet
unfoldable pub marked : ℕ → Marks → Signature → Marks
marked n m x =
    cond ((ltb x.index n && eqb x.verdict 1) && not (get_or m.seen x.index false))
    (record { seen = set m.seen x.index true; valid = m.valid + 1 })
    m
