-- The derived comparisons of sequence numbers: those of the numbers.
--     same_value, less_value     `==` and `<` compare the numbers
use Prim.Native.Nat.{◌^◌, ◌<◌}
use mathlib.Core.Path.{◌≡◌, refl, ◌∙◌}
use mathlib.Core.Bool.{Bool, true, false, cond, ◌||◌, ◌&&◌}
use lib.Dec.{eqb, ltb}
use Rattle.std.specs.Ordering.{partial_ordering_then, partial_lt, is_some_and, is_lt}
use Rattle.std.proofs.Common.{Less, Equal, Greater, Some}
use Rattle.cesr_sn.specs.contracts.SnPartialEq.TheImpl.{eq-value}
use Rattle.cesr_sn.specs.contracts.SnPartialOrd.TheImpl.{partial_cmp-value}
use Rattle.cesr_sn.specs.declared.Sn.{Sn}
use Rattle.cesr_sn.specs.Numbers.{value}
use Rattle.cesr_sn.proofs.Words.{words-eqb, words-ltb}

-- `==` compares the words in their order, and so the numbers
pub same_value : (a b : Sn) → a.lo < 2 ^ 64 → b.lo < 2 ^ 64 → eq-value.it a b ≡ eqb (value a) (value b)
unfolding value
same_value a b p q = words-eqb a.hi a.lo b.hi b.lo p q

-- and so does `<`
pub less_value : (a b : Sn) → a.lo < 2 ^ 64 → b.lo < 2 ^ 64 → partial_lt partial_cmp-value.it a b ≡ ltb (value a) (value b)
unfolding value
less_value a b p q = go (ltb a.hi b.hi) (eqb a.hi b.hi) (ltb a.lo b.lo) (eqb a.lo b.lo) ∙ words-ltb a.hi a.lo b.hi b.lo p q
  where
    go : (t u v w : Bool) → is_some_and is_lt (partial_ordering_then (Some (cond t Less (cond u Equal Greater))) (Some (cond v Less (cond w Equal Greater)))) ≡ (t || (u && v))
    go true u v w = refl
    go false true true w = refl
    go false true false true = refl
    go false true false false = refl
    go false false v w = refl
