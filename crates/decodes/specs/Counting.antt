-- Where a group is counted, and what is counted of a finding.
use Rattle.std.specs.Prelude.{ℕ, List, [], ◌∷◌, Bool, cond, leb}
use Rattle.decodes.specs.declared.Finding.{Finding}
use Rattle.decodes.specs.declared.Group.{Group}
use Rattle.decodes.specs.declared.Group.TheVariants.{Other, Vectors, Cut, Long, Limits, Letters, Ranges}

abbrev pub group_place : Group → ℕ
group_place Other = 0
group_place Vectors = 1
group_place Cut = 2
group_place Long = 3
group_place Limits = 4
group_place Letters = 5
group_place Ranges = 6

-- by a record's byte: 1 to 6 have a place of their own, any other has 0
abbrev pub place_of : ℕ → ℕ
place_of byte = cond (leb byte 6) byte 0

-- the first count is of malformed attempts, the second of those as expected
abbrev pub tests_of : Finding → List Bool
tests_of f = f.malformed ∷ f.agrees ∷ []
