-- Laws of tests: what a joint test says of its parts, and a bound moved across a difference.
use Prim.Native.Nat.{ℕ, ◌+◌, ◌-◌, ◌≤◌}
use mathlib.Core.Path.{◌≡◌, refl, sym, ◌∙◌}
use mathlib.Core.Bool.{Bool, true, false, cond, ◌&&◌}
use native.Mathlib.Omega.{arith}
use native.Mathlib.Decide.{dec_le}
use borrow.Author.Tests.{le-leb, lt-leb}
use lib.Dec.{leb}

pub and_left : (a b : Bool) → (a && b) ≡ true → a ≡ true
and_left true b e = refl
and_left false b e = e

pub and_right : (a b : Bool) → (a && b) ≡ true → b ≡ true
and_right true b e = e
and_right false true e = refl
and_right false false e = e

-- both choices alike
pub cond_same : {A : Type 0} (b : Bool) (x : A) → cond b x x ≡ x
cond_same true x = refl
cond_same false x = refl

pub leb-sub : (n a l : ℕ) → a ≤ l → leb n (l - a) ≡ leb (a + n) l
leb-sub n a l h =
    elim (dec_le (a + n) l) [
      | yes p ↦ le-leb n (l - a) (omega arith) ∙ sym (le-leb (a + n) l p)
      | no p ↦ lt-leb n (l - a) (omega arith) ∙ sym (lt-leb (a + n) l (omega arith))
    ]
