-- Where a number is counted, and what is counted of a case.
use Rattle.std.specs.Prelude.{ℕ, List, [], ◌∷◌, Bool, not, cond, eqb, leb}
use Rattle.folds.specs.declared.Case.{Case}

-- 0 to 39 have a place of their own, any other has 40
abbrev pub place_of : ℕ → ℕ
place_of number = cond (leb number 39) number 40

-- the first count is of cases that agree, the second of those whose states can't be read, the third of those where the Rust gives another number
abbrev pub tests_of : Case → List Bool
tests_of c = c.finding.agrees ∷ not c.finding.read ∷ not (eqb c.number c.rust) ∷ []
