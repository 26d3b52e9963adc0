-- The values of a report (docs/RULES.md, "Host's calls").
use Rattle.std.specs.Prelude.{ℕ, List, [], ◌∷◌}
use Rattle.cesr_sn.specs.Numbers.{value}
use Rattle.host_values.specs.declared.Values.{Values}
use Rattle.host_values.specs.declared.Values.TheVariants.{Nothing, One, Two}

-- what the code's values stand for
abbrev pub values_of : Values → List ℕ
values_of Nothing = []
values_of (One a) = value a ∷ []
values_of (Two a b) = value a ∷ value b ∷ []
