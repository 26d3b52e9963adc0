-- The claim about two orders (docs/RULES.md, "Two orders").
use Rattle.std.specs.Prelude.{ℕ, ◌+◌, ◌≤◌, ◌<◌, ◌≡◌, Bool, true, false, cond, not, List, [], ◌∷◌, length}
use Rattle.std.proofs.Math.Option.{Option, none, some}
use Rattle.std.proofs.Math.ListN.{get_elem?}
use Rattle.cesr.specs.declared.Said.{Said}
use Rattle.events_tel.specs.TelEvents.{Event}
use Rattle.events_tel.specs.TelEvents.Event.{vcp, vrt, iss, rev, bis, brv}
use Rattle.registry_laws.specs.Attempts.{Evidence}
use Rattle.registry_laws.specs.Attempts.Evidence.{missing, issuer, backer, backer_at}
use Rattle.registry_disposition.specs.Dispositions.{awaited_of}
use Rattle.registry_error.specs.Errors.{answer_number, answer_letter, disposition_of, details_of}
use Rattle.registry_error.specs.Errors.{Answer}
use Rattle.std.specs.Prelude.{Ok, Err}
use Rattle.registry_laws.specs.Pairs.{Pair}
use Rattle.ledger_step.specs.Tables.{has, found}
use Rattle.ledger_step.specs.Ledgers.{Ledger, eq_pair, row_at, look_up}
use Rattle.ledger_step.specs.Steps.{Request, request_of, step_of}
use Rattle.ledger_step.specs.Steps.Request.{nothing, inception, rotation, issue, revocation}
use Rattle.ledger_step.specs.Orders.{Each, Matched, KeepsOrder, final, answers}

-- a result: number, disposition, evidence kind awaited and details
pub record Result : Type 0 where
  pub number : ℕ
  pub letter : ℕ
  pub awaited : ℕ
  pub details : List ℕ

abbrev pub answer_awaited : Answer → ℕ
answer_awaited (Ok u) = 0
answer_awaited (Err r) = awaited_of (disposition_of r)

abbrev pub answer_details : Answer → List ℕ
answer_details (Ok u) = []
answer_details (Err r) = details_of r

abbrev pub result_of : Answer → Result
result_of a = record { number = answer_number a; letter = answer_letter a; awaited = answer_awaited a; details = answer_details a }

-- a run: the ledger at its end, and the results of its attempts
abbrev pub next_of : Ledger → List ℕ → Ledger
next_of l s = (step_of l s).ledger

abbrev pub result_at : Ledger → List ℕ → Result
result_at l s = result_of (step_of l s).answer

abbrev pub end_of : Ledger → List (List ℕ) → Ledger
end_of l xs = final next_of l xs

abbrev pub results_of : Ledger → List (List ℕ) → List Result
results_of l xs = answers next_of result_at l xs

-- what keeps its order: the vrts that name one registry, and the attempts that name one pair. Malformed bytes, and a brv that names no pair,
-- are in no class.
pub data Class : Type 0 where
  rotations_of : Said → Class
  attempts_on : Pair → Class

abbrev pub class_by : Request → Option Class
class_by (nothing r) = none
class_by (inception id m) = none
class_by (rotation id m) = some (rotations_of id)
class_by (issue k m) = some (attempts_on k)
class_by (revocation k m) = some (attempts_on k)

abbrev pub class_of : List ℕ → Option Class
class_of s = class_by (request_of s)

-- a bis or brv with evidence 2 takes the present head as its authority
abbrev pub is_head : Evidence → Bool
is_head missing = false
is_head (issuer prefix anchor) = false
is_head backer = true
is_head (backer_at g) = false

abbrev pub takes_head : Event → Evidence → Bool
takes_head (vcp said prefix toad configs backers) e = false
takes_head (vrt said registry prior sn toad cuts additions) e = false
takes_head (iss said credential registry) e = false
takes_head (rev said credential registry prior) e = false
takes_head (bis said credential registry seal) e = is_head e
takes_head (brv said credential prior seal) e = is_head e

-- it is no vcp, and does not take the present head as its authority; malformed bytes, and a brv that names no pair, may stand in the lists
abbrev pub admitted_by : Request → Bool
admitted_by (nothing r) = true
admitted_by (inception id m) = false
admitted_by (rotation id m) = true
admitted_by (issue k m) = not (takes_head m.event m.evidence)
admitted_by (revocation k m) = not (takes_head m.event m.evidence)

abbrev pub Admitted : List ℕ → Type 0
Admitted s = admitted_by (request_of s) ≡ true

-- the new pair of an attempt: an iss or bis names it, and the starting ledger lacks it
abbrev pub new_pair_by : Ledger → Request → Option Pair
new_pair_by l (nothing r) = none
new_pair_by l (inception id m) = none
new_pair_by l (rotation id m) = none
new_pair_by l (issue k m) = cond (found (row_at l k)) none (some k)
new_pair_by l (revocation k m) = none

-- the new pairs of a list, each once
abbrev pub once : Option Pair → List Pair → List Pair
once none ks = ks
once (some k) ks = cond (has eq_pair k ks) ks (k ∷ ks)

unfoldable pub new_pairs : Ledger → List (List ℕ) → List Pair
new_pairs l [] = []
new_pairs l (s ∷ xs) = once (new_pair_by l (request_of s)) (new_pairs l xs)

-- What two runs have in common: the result of every attempt, at its two places; the registries, as many, in the same places, with every
-- field equal; of every key the row, or none in both; the look-up of every key.
pub record SameRuns (l : Ledger) (xs ys : List (List ℕ)) (m : Matched xs ys) : Type 0 where
  pub results : (i : ℕ) → i < length xs → get_elem? (results_of l xs) i ≡ get_elem? (results_of l ys) (m.to i)
  pub registry_counts : (end_of l xs).registry_count ≡ (end_of l ys).registry_count
  pub registries : (end_of l xs).registries ≡ (end_of l ys).registries
  pub rows : (k : Pair) → row_at (end_of l xs) k ≡ row_at (end_of l ys) k
  pub look_ups : (k : Pair) → look_up (end_of l xs) k ≡ look_up (end_of l ys) k

-- The claim. The ledger may be any, also one that breaks a reading rule (1). The attempts of the one list are matched with those of the
-- other, place by place (2), and each is admitted (3, 4). The order is kept within each class (5), and the rows of the ledger and the new
-- pairs are together at most 256 (6).
abbrev pub OrderFree : Type 0
OrderFree =
    (l : Ledger) (xs ys : List (List ℕ)) (m : Matched xs ys)
    → Each Admitted xs
    → KeepsOrder class_of m
    → l.row_count + length (new_pairs l xs) ≤ 256
    → SameRuns l xs ys m
