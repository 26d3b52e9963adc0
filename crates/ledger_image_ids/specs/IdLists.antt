-- Ids: an array and a count, seen as a list.
use Rattle.std.specs.Prelude.{cond, List, [], ◌∷◌, ◌++◌, ltb, length, take}
use Rattle.cesr.specs.declared.Said.{Said}
use Rattle.ledger_image_ids.specs.declared.Ids.{Ids}

-- the array's elements before the count
unfoldable pub view_ids : Ids → List Said
view_ids m = take m.count m.items

-- one id behind the others, where there is room for it
unfoldable pub pushed : List Said → Said → List Said
pushed l id = cond (ltb (length l) 16) (l ++ (id ∷ [])) l
