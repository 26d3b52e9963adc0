-- The members after a rotation (docs/RULES.md, "Lists of backers").
use Rattle.std.specs.Prelude.{List, [], ◌∷◌, ◌++◌, cond}
use Rattle.cesr.specs.declared.BasicPrefix.{BasicPrefix}
use Rattle.events.specs.Members.{has}

-- those of the list that are not among the cuts, in their order
unfoldable pub survivors : List BasicPrefix → List BasicPrefix → List BasicPrefix
survivors cuts [] = []
survivors cuts (x ∷ l) = cond (has x cuts) (survivors cuts l) (x ∷ survivors cuts l)

-- survivors, then additions in theirs
unfoldable pub updated_members : List BasicPrefix → List BasicPrefix → List BasicPrefix → List BasicPrefix
updated_members current cuts additions = survivors cuts current ++ additions
