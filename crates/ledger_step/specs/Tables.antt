-- Tables: lists whose elements have keys (docs/RULES.md, "Ledger").
use Rattle.std.specs.Prelude.{ℕ, Bool, true, false, cond, not, ◌&&◌, ◌||◌, List, [], ◌∷◌, length, get_or}
use Rattle.std.proofs.Math.Option.{Option, none, some}
use Rattle.laws.specs.First.{first}

-- whether k is in the list, and whether no two of the list are equal
module _ {K : Type 0} (eq : K → K → Bool) where
  unfoldable pub has : K → List K → Bool
  has k [] = false
  has k (a ∷ l) = eq a k || has k l

  unfoldable pub distinct : List K → Bool
  distinct [] = true
  distinct (a ∷ l) = not (has a l) && distinct l

module _ {X K : Type 0} (key : X → K) (eq : K → K → Bool) where
  -- the first element with the key k
  unfoldable pub find : K → List X → Option X
  find k [] = none
  find k (x ∷ l) = cond (eq (key x) k) (some x) (find k l)

  -- the table with x in the place of that element
  unfoldable pub put : K → X → List X → List X
  put k x [] = []
  put k x (y ∷ l) = cond (eq (key y) k) (x ∷ l) (y ∷ put k x l)

abbrev pub found : {X : Type 0} → Option X → Bool
found none = false
found (some x) = true

-- the least place whose element has the key k, or the length where there is none; past the end stands the blank one
module _ {X K : Type 0} (key : X → K) (eq : K → K → Bool) (blank : X) where
  unfoldable pub place : K → List X → ℕ
  place k l = first (λ i. eq (key (get_or l i blank)) k) (length l)
