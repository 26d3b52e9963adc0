-- The five conditions together are those of the claim about two orders (docs/RULES.md, "Two orders").
--     together   the sentence of specs/Conditions
use Prim.Native.Nat.{ℕ, ◌+◌, ◌≤◌}
use mathlib.Core.Path.{◌≡◌, refl, ap}
use mathlib.Core.Bool.{true, false, not, true≢false, false≢true}
use mathlib.Core.Option.{some, none-ne-some}
use mathlib.Core.List.{List}
use native.Mathlib.Omega.{arith}
use borrow.Author.Tests.{not-true}
use lib.ListN.{length}
use Rattle.cesr.specs.declared.Said.{Said}
use Rattle.registry_laws.specs.Pairs.{Pair}
use Rattle.ledger_step.specs.Ledgers.{Ledger}
use Rattle.ledger_step.specs.Steps.{Request, request_of}
use Rattle.ledger_step.specs.Steps.Request.{nothing, inception, rotation, issue, revocation}
use Rattle.ledger_step.specs.Orders.{Each, Matched, KeepsOrder}
use Rattle.ledger_step.specs.OrderFreedom.{class_by, class_of, takes_head, admitted_by, Admitted, new_pairs}
use Rattle.ledger_step.specs.OrderFreedom.Class.{rotations_of, attempts_on}
use Rattle.ledger_examples.specs.Conditions.{Condition, is_inception, by_head, rotates, names, Holds, Together}
use Rattle.ledger_examples.specs.Conditions.Condition.{no_inceptions, no_present_heads, rotations_in_order, pairs_in_order, room}

-- an attempt is admitted where it is no inception, and not by the present head
admitted-by : (q : Request) → is_inception q ≡ false → by_head q ≡ false → admitted_by q ≡ true
admitted-by (nothing r) i h = refl
admitted-by (inception id m) i h = absurd (true≢false i)
admitted-by (rotation id m) i h = refl
admitted-by (issue k m) i h = ap not h
admitted-by (revocation k m) i h = ap not h

no-inception : (q : Request) → admitted_by q ≡ true → is_inception q ≡ false
no-inception (nothing r) h = refl
no-inception (inception id m) h = absurd (false≢true h)
no-inception (rotation id m) h = refl
no-inception (issue k m) h = refl
no-inception (revocation k m) h = refl

not-by-head : (q : Request) → admitted_by q ≡ true → by_head q ≡ false
not-by-head (nothing r) h = refl
not-by-head (inception id m) h = refl
not-by-head (rotation id m) h = refl
not-by-head (issue k m) h = not-true (takes_head m.event m.evidence) h
not-by-head (revocation k m) h = not-true (takes_head m.event m.evidence) h

-- the class of an attempt is the registry that it rotates, or the pair that it names
rotated : (q : Request) (id : Said) → class_by q ≡ some (rotations_of id) → rotates q ≡ some id
rotated (nothing r) id e = absurd (none-ne-some _ e)
rotated (inception i m) id e = absurd (none-ne-some _ e)
rotated (rotation i m) id e = cc
rotated (issue k m) id e = absurd (let z : ◌≡◌ {A = ℕ} 0 1 = cc in omega arith)
rotated (revocation k m) id e = absurd (let z : ◌≡◌ {A = ℕ} 0 1 = cc in omega arith)

rotates-class : (q : Request) (id : Said) → rotates q ≡ some id → class_by q ≡ some (rotations_of id)
rotates-class (nothing r) id e = absurd (none-ne-some _ e)
rotates-class (inception i m) id e = absurd (none-ne-some _ e)
rotates-class (rotation i m) id e = cc
rotates-class (issue k m) id e = absurd (none-ne-some _ e)
rotates-class (revocation k m) id e = absurd (none-ne-some _ e)

named : (q : Request) (p : Pair) → class_by q ≡ some (attempts_on p) → names q ≡ some p
named (nothing r) p e = absurd (none-ne-some _ e)
named (inception i m) p e = absurd (none-ne-some _ e)
named (rotation i m) p e = absurd (let z : ◌≡◌ {A = ℕ} 0 1 = cc in omega arith)
named (issue k m) p e = cc
named (revocation k m) p e = cc

names-class : (q : Request) (p : Pair) → names q ≡ some p → class_by q ≡ some (attempts_on p)
names-class (nothing r) p e = absurd (none-ne-some _ e)
names-class (inception i m) p e = absurd (none-ne-some _ e)
names-class (rotation i m) p e = absurd (none-ne-some _ e)
names-class (issue k m) p e = cc
names-class (revocation k m) p e = cc

module _ (l : Ledger) (xs ys : List (List ℕ)) (m : Matched xs ys) where
  both-orders : Holds rotations_in_order l m → Holds pairs_in_order l m → KeepsOrder class_of m
  both-orders r p (rotations_of id) i j x y a b e f h = r id i j x y a b (rotated (request_of x) id e) (rotated (request_of y) id f) h
  both-orders r p (attempts_on k) i j x y a b e f h = p k i j x y a b (named (request_of x) k e) (named (request_of y) k f) h

  each-one : Each Admitted xs → KeepsOrder class_of m → l.row_count + length (new_pairs l xs) ≤ 256 → (c : Condition) → Holds c l m
  each-one a o r no_inceptions = λ i x e. no-inception (request_of x) (a i x e)
  each-one a o r no_present_heads = λ i x e. not-by-head (request_of x) (a i x e)
  each-one a o r rotations_in_order = λ id i j x y p q e f h. o (rotations_of id) i j x y p q (rotates-class (request_of x) id e) (rotates-class (request_of y) id f) h
  each-one a o r pairs_in_order = λ k i j x y p q e f h. o (attempts_on k) i j x y p q (names-class (request_of x) k e) (names-class (request_of y) k f) h
  each-one a o r room = r

pub together : Together
together l xs ys m =
    (λ h. (λ i x e. admitted-by (request_of x) (h no_inceptions i x e) (h no_present_heads i x e), both-orders l xs ys m (h rotations_in_order) (h pairs_in_order), h room), λ t. each-one l xs ys m t.0 t.1 t.2)
