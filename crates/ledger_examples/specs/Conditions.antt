-- The conditions of the claim about two orders, one by one, and what it is that one of them is needed (docs/RULES.md, "Two orders").
use Rattle.std.specs.Prelude.{ℕ, ◌+◌, ◌≤◌, ◌≡◌, ◌≢◌, ◌↔◌, Bool, true, false, List, [], ◌∷◌, map, length}
use Rattle.std.proofs.Math.Option.{Option, none, some}
use Rattle.cesr.specs.declared.Said.{Said}
use Rattle.registry_wire.specs.Attempts.{Message, attempt_bytes}
use Rattle.registry_laws.specs.Pairs.{Pair}
use Rattle.ledger_step.specs.Ledgers.{Ledger, sound}
use Rattle.ledger_step.specs.Steps.{Request, request_of}
use Rattle.ledger_step.specs.Steps.Request.{nothing, inception, rotation, issue, revocation}
use Rattle.ledger_step.specs.Orders.{Each, Matched, KeepsOrder}
use Rattle.ledger_step.specs.OrderFreedom.{Result, results_of, class_of, takes_head, Admitted, new_pairs, SameRuns}

pub data Condition : Type 0 where
  no_inceptions : Condition
  no_present_heads : Condition
  rotations_in_order : Condition
  pairs_in_order : Condition
  room : Condition

abbrev pub is_inception : Request → Bool
is_inception (nothing r) = false
is_inception (inception id m) = true
is_inception (rotation id m) = false
is_inception (issue k m) = false
is_inception (revocation k m) = false

-- a bis or brv whose authority is the present head
abbrev pub by_head : Request → Bool
by_head (nothing r) = false
by_head (inception id m) = false
by_head (rotation id m) = false
by_head (issue k m) = takes_head m.event m.evidence
by_head (revocation k m) = takes_head m.event m.evidence

-- the registry that a vrt names, and the pair that another attempt names
abbrev pub rotates : Request → Option Said
rotates (nothing r) = none
rotates (inception id m) = none
rotates (rotation id m) = some id
rotates (issue k m) = none
rotates (revocation k m) = none

abbrev pub names : Request → Option Pair
names (nothing r) = none
names (inception id m) = none
names (rotation id m) = none
names (issue k m) = some k
names (revocation k m) = some k

-- what a condition says of two lists whose places are matched
abbrev pub Holds : Condition → Ledger → {xs ys : List (List ℕ)} → Matched xs ys → Type 0
Holds no_inceptions l {xs} m = Each (λ s. is_inception (request_of s) ≡ false) xs
Holds no_present_heads l {xs} m = Each (λ s. by_head (request_of s) ≡ false) xs
Holds rotations_in_order l m = KeepsOrder (λ s. rotates (request_of s)) m
Holds pairs_in_order l m = KeepsOrder (λ s. names (request_of s)) m
Holds room l {xs} m = l.row_count + length (new_pairs l xs) ≤ 256

-- The five together are the three that the claim asks.
abbrev pub Together : Type 0
Together =
    (l : Ledger) (xs ys : List (List ℕ)) (m : Matched xs ys)
    → ((c : Condition) → Holds c l m) ↔ (Each Admitted xs × KeepsOrder class_of m × (l.row_count + length (new_pairs l xs) ≤ 256))

-- the numbers of a run's results
abbrev pub numbers_of : Ledger → List (List ℕ) → List ℕ
numbers_of l xs = map (λ (r : Result). r.number) (results_of l xs)

abbrev pub bytes_of : Message → Message → List (List ℕ)
bytes_of a b = attempt_bytes a ∷ attempt_bytes b ∷ []

-- a ledger that keeps the reading rules, and holds as many states as it counts
pub record Whole (l : Ledger) : Type 0 where
  pub reads : sound l ≡ true
  pub registries : length l.registries ≡ l.registry_count
  pub rows : length l.rows ≡ l.row_count

-- Two messages show that a condition is needed: from a whole ledger they are answered by these numbers in the one order and by those in
-- the other; of the conditions every other one holds, and the runs differ. (So the condition itself does not hold there: with it the claim
-- would make them the same.)
pub record Needed (c : Condition) (l : Ledger) (a b : Message) (numbers exchanged : List ℕ) : Type 0 where
  pub whole : Whole l
  pub first : numbers_of l (bytes_of a b) ≡ numbers
  pub second : numbers_of l (bytes_of b a) ≡ exchanged
  pub matched : Matched (bytes_of a b) (bytes_of b a)
  pub others : (d : Condition) → d ≢ c → Holds d l matched
  pub differ : ¬ SameRuns l (bytes_of a b) (bytes_of b a) matched

-- The conditions can be met: two lists that differ are matched, all that the claim asks holds, and so does what it concludes.
pub record Met (l : Ledger) (xs : List (List ℕ)) (numbers : List ℕ) (ys : List (List ℕ)) (others : List ℕ) : Type 0 where
  pub whole : Whole l
  pub first : numbers_of l xs ≡ numbers
  pub second : numbers_of l ys ≡ others
  pub different : xs ≢ ys
  pub matched : Matched xs ys
  pub admitted : Each Admitted xs
  pub ordered : KeepsOrder class_of matched
  pub rows : l.row_count + length (new_pairs l xs) ≤ 256
  pub same : SameRuns l xs ys matched
