-- Ids, seen as a list.
--     pushed_room    one id more, where there is room
use Prim.Native.Nat.{◌<◌}
use mathlib.Core.Path.{◌≡◌}
use mathlib.Core.List.{List, [], ◌∷◌, ◌++◌}
use borrow.Author.Tests.{lt-ltb}
use lib.ListN.{length}
use Rattle.cesr.specs.declared.Said.{Said}
use Rattle.ledger_image_ids.specs.IdLists.{pushed}

pub pushed_room : (l : List Said) (id : Said) → length l < 16 → pushed l id ≡ l ++ (id ∷ [])
unfolding pushed
pushed_room l id b = rw (lt-ltb (length l) 16 b)
