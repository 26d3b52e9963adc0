-- Places of lists, and of two lists that are matched.
--     at_in, in-at         a place that holds something is a place of the list, and the other way round
--     from_at, each-other  what holds of one of two matched lists holds of the other
use Prim.Native.Nat.{ℕ, zero, suc, ◌<◌, suc-le-suc}
use mathlib.Core.Path.{◌≡◌, refl, sym, ◌∙◌}
use mathlib.Core.Option.{some, none-ne-some}
use mathlib.Core.List.{List, [], ◌∷◌}
use native.Mathlib.Nat.{not-suc-le-zero, le_of_suc-le-suc, zero-lt-suc}
use lib.ListN.{length, get_elem?}
use Rattle.ledger_step.specs.Orders.{Each, Matched}

pub at_in : {A : Type 0} (l : List A) (i : ℕ) (x : A) → get_elem? l i ≡ some x → i < length l
at_in [] i x e = absurd (none-ne-some _ e)
at_in (y ∷ l) zero x e = zero-lt-suc (length l)
at_in (y ∷ l) (suc i) x e = suc-le-suc (at_in l i x e)

pub in-at : {A : Type 0} (l : List A) (i : ℕ) → i < length l → (x : A) × (get_elem? l i ≡ some x)
in-at [] i h = absurd (not-suc-le-zero h)
in-at (y ∷ l) zero h = (y, refl)
in-at (y ∷ l) (suc i) h = in-at l i (le_of_suc-le-suc h)

pub from_at : {A : Type 0} {xs ys : List A} (m : Matched xs ys) (j : ℕ) (y : A) → get_elem? ys j ≡ some y → get_elem? xs (m.from j) ≡ some y
from_at {A} {xs} {ys} m j y e =
    let h : j < length ys = at_in ys j y e in sym (m.same (m.from j) (m.from_in j h)) ∙ rw (m.to-from j h) e

pub each-other : {A : Type 0} {xs ys : List A} (m : Matched xs ys) (P : A → Type 0) → Each P xs → Each P ys
each-other m P h j y e = h (m.from j) y (from_at m j y e)
