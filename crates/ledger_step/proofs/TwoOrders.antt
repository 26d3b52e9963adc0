-- The claim about two orders, proved.
--     order-free   docs/RULES.md, "Two orders"
use Prim.Native.Nat.{ℕ, zero, suc, ◌+◌, ◌≤◌, ◌<◌}
use mathlib.Core.Path.{◌≡◌, refl, sym, ap, ◌∙◌}
use mathlib.Core.HLevel.{Discrete}
use mathlib.Core.Bool.{Bool, true, false, cond, ◌||◌, true≢false, false≢true}
use mathlib.Core.Option.{Option, none, some, none-ne-some, some-injective}
use mathlib.Core.List.{List, [], ◌∷◌, Memᴰ}
use native.Mathlib.Omega.{arith}
use borrow.Author.Tests.{not-true}
use lib.ListN.{length, get_elem?}
use Rattle.cesr.specs.Primitives.{eq_said}
use Rattle.std.proofs.Common.{Err}
use Rattle.registry_error.specs.declared.RegistryRejection.TheVariants.{Malformed}
use Rattle.registry_laws.specs.Pairs.{Pair, key_of}
use Rattle.ledger_step.specs.Tables.{has}
use Rattle.ledger_step.specs.Ledgers.{Ledger, id_of, eq_pair, row_at, sound, look_up}
use Rattle.ledger_step.specs.Steps.{Request, request_of, effect, step_of}
use Rattle.ledger_step.specs.Steps.Request.{nothing, inception, rotation, issue, revocation}
use Rattle.ledger_step.specs.Steps.Effect.{refuse}
use Rattle.ledger_step.specs.Orders.{Each, Matched, KeepsOrder}
use Rattle.ledger_step.specs.OrderFreedom.{result_of, next_of, result_at, end_of, results_of, Class, class_of, takes_head, admitted_by, Admitted, new_pair_by, once, new_pairs, SameRuns, OrderFree}
use Rattle.ledger_step.specs.OrderFreedom.Class.{rotations_of, attempts_on}
use Rattle.ledger_step.proofs.Places.{each-other}
use Rattle.ledger_step.proofs.Runs.{idle-final, idle-answers}
use Rattle.ledger_step.proofs.Cells.{final-fine, same-answers, same-cells}
use Rattle.ledger_step.proofs.TableLaws.{Tests, table_same}
use Rattle.ledger_step.proofs.Lacking.{lacking-within}
use Rattle.ledger_step.proofs.Rules.{said-test, pair-test, Keeps, parts, whole}
use Rattle.ledger_step.proofs.Changes.{request-read}
use Rattle.ledger_step.proofs.Locality.{cell, Permitted, Fine, Allowed, local, ids-kept}

-- what has a test of equality is discrete
by-test : {K : Type 0} (eq : K → K → Bool) → Tests eq → Discrete K
by-test eq test a b = go (eq a b) refl
  where
    go : (t : Bool) → eq a b ≡ t → Dec (a ≡ b)
    go true e = yes (test.equal a b e)
    go false e = no (λ p. true≢false (sym (test.same a) ∙ ap (eq a) p ∙ e))

-- equality behind a constructor
under : {K C : Type 0} (f : K → C) → ((a b : K) → f a ≡ f b → a ≡ b) → Discrete K → (a b : K) → Dec (f a ≡ f b)
under f back key? a b = go (key? a b)
  where
    go : Dec (a ≡ b) → Dec (f a ≡ f b)
    go (yes p) = yes (ap f p)
    go (no q) = no (λ p. q (back a b p))

class? : Discrete Class
class? (rotations_of a) (rotations_of b) = under rotations_of (λ x y e. cc) (by-test eq_said said-test) a b
class? (rotations_of a) (attempts_on b) = no (λ p. let z : ◌≡◌ {A = ℕ} 0 1 = cc in omega arith)
class? (attempts_on b) (rotations_of a) = no (λ p. let z : ◌≡◌ {A = ℕ} 0 1 = cc in omega arith)
class? (attempts_on a) (attempts_on b) = under attempts_on (λ x y e. cc) (by-test eq_pair pair-test) a b

-- the new pair of every attempt of a list is one of its new pairs

has-member : (k : Pair) (ks : List Pair) → has eq_pair k ks ≡ true → Memᴰ k ks
unfolding has
has-member k [] e = absurd (false≢true e)
has-member k (a ∷ ks) e = go (eq_pair a k) refl e (has-member k ks)
  where
    go : (b : Bool) → eq_pair a k ≡ b → (b || has eq_pair k ks) ≡ true → (has eq_pair k ks ≡ true → Memᴰ k ks) → Memᴰ k (a ∷ ks)
    go true t q ih = Memᴰ.head (sym (pair-test.equal a k t))
    go false t q ih = Memᴰ.tail (ih q)

once-new : (o : Option Pair) (k : Pair) (ks : List Pair) → o ≡ some k → Memᴰ k (once o ks)
once-new none k ks e = absurd (none-ne-some _ e)
once-new (some a) k ks e = go (has eq_pair a ks) refl
  where
    same : k ≡ a
    same = sym (some-injective _ _ e)

    go : (b : Bool) → has eq_pair a ks ≡ b → Memᴰ k (cond b ks (a ∷ ks))
    go true q = has-member k ks (rw same q)
    go false q = Memᴰ.head same

once-old : (o : Option Pair) (k : Pair) (ks : List Pair) → Memᴰ k ks → Memᴰ k (once o ks)
once-old none k ks m = m
once-old (some a) k ks m = go (has eq_pair a ks)
  where
    go : (b : Bool) → Memᴰ k (cond b ks (a ∷ ks))
    go true = m
    go false = Memᴰ.tail m

named : (l : Ledger) (xs : List (List ℕ)) (i : ℕ) (s : List ℕ) (k : Pair) → get_elem? xs i ≡ some s → new_pair_by l (request_of s) ≡ some k → Memᴰ k (new_pairs l xs)
unfolding new_pairs
named l [] i s k e n = absurd (none-ne-some _ e)
named l (y ∷ xs) zero s k e n =
    once-new (new_pair_by l (request_of y)) k (new_pairs l xs) (ap (λ (z : List ℕ). new_pair_by l (request_of z)) (some-injective _ _ e) ∙ n)
named l (y ∷ xs) (suc i) s k e n = once-old (new_pair_by l (request_of y)) k (new_pairs l xs) (named l xs i s k e n)

permitted : (l : Ledger) (news : List Pair) (q : Request) → admitted_by q ≡ true → ((k : Pair) → new_pair_by l q ≡ some k → Memᴰ k news) → Permitted l news q
permitted l news (nothing r) h n = tt
permitted l news (inception id m) h n = absurd (false≢true h)
permitted l news (rotation id m) h n = tt
permitted l news (issue k m) h n = (not-true (takes_head m.event m.evidence) h, λ e. n k (rw e))
permitted l news (revocation k m) h n = not-true (takes_head m.event m.evidence) h

-- a ledger that breaks a reading rule answers 1 to every attempt, and stays
module _ (l : Ledger) (broken : sound l ≡ false) where
  refused : (q : Request) → effect l q ≡ refuse Malformed
  unfolding effect
  refused q = rw broken

  still : (s : List ℕ) → next_of l s ≡ l
  unfolding step_of
  still s = rw (refused (request_of s))

  says : (s : List ℕ) → result_at l s ≡ result_of (Err Malformed)
  unfolding step_of
  says s = rw (refused (request_of s))

  stays : (xs : List (List ℕ)) → end_of l xs ≡ l
  stays = idle-final next_of l still

  answer : (xs : List (List ℕ)) (i : ℕ) → i < length xs → get_elem? (results_of l xs) i ≡ some (result_of (Err Malformed))
  answer = idle-answers next_of l still result_at (result_of (Err Malformed)) says

  broken-runs : (xs ys : List (List ℕ)) (m : Matched xs ys) → SameRuns l xs ys m
  broken-runs xs ys m =
      let e : end_of l xs ≡ end_of l ys = stays xs ∙ sym (stays ys) in
      record
      { results = λ i h. answer xs i h ∙ sym (answer ys (m.to i) (m.to_in i h)); registry_counts = ap (λ (s : Ledger). s.registry_count) e; registries = ap (λ (s : Ledger). s.registries) e; rows = λ k. ap (λ (s : Ledger). row_at s k) e; look_ups = λ k. ap (λ (s : Ledger). look_up s k) e }

module _ (l : Ledger) (xs ys : List (List ℕ)) (m : Matched xs ys) (h : Each Admitted xs) (o : KeepsOrder class_of m) (room : l.row_count + length (new_pairs l xs) ≤ 256) (k : Keeps l) where
  abbrev news : List Pair
  news = new_pairs l xs

  start : Fine l news l
  start = record
      { kept = k; fixed_kept = refl; count_kept = refl; keys_kept = λ p e. e; room = omega (arith, room, lacking-within key_of eq_pair news l.rows) }

  allowed : Each (Allowed l news) xs
  allowed i s e = (permitted l news (request_of s) (h i s e) (λ p n. named l xs i s p e n), request-read s)

  fine_x : Fine l news (end_of l xs)
  fine_x = final-fine class? next_of result_at class_of cell (Fine l news) (Allowed l news) (local l news) l xs start allowed

  fine_y : Fine l news (end_of l ys)
  fine_y = final-fine class? next_of result_at class_of cell (Fine l news) (Allowed l news) (local l news) l ys start (each-other m (Allowed l news) allowed)

  cells : (c : Class) → cell (end_of l xs) c ≡ cell (end_of l ys) c
  cells = same-cells class? next_of result_at class_of cell (Fine l news) (Allowed l news) (local l news) l xs ys m o start allowed

  look : (p : Pair) → look_up (end_of l xs) p ≡ look_up (end_of l ys) p
  unfolding look_up
  look p = rw (whole (end_of l xs) fine_x.kept, whole (end_of l ys) fine_y.kept, cells (attempts_on p))

  sound-runs : SameRuns l xs ys m
  sound-runs = record
      { results = same-answers class? next_of result_at class_of cell (Fine l news) (Allowed l news) (local l news) l xs ys m o start allowed; registry_counts = fine_x.count_kept ∙ sym fine_y.count_kept; registries = table_same id_of eq_said said-test (end_of l xs).registries (end_of l ys).registries (ids-kept l news (end_of l xs) fine_x ∙ sym (ids-kept l news (end_of l ys) fine_y)) fine_x.kept.ids (λ id. cells (rotations_of id)); rows = λ p. cells (attempts_on p); look_ups = look }

-- The claim.
pub order-free : OrderFree
order-free l xs ys m h o room = go (sound l) refl
  where
    go : (t : Bool) → sound l ≡ t → SameRuns l xs ys m
    go true e = sound-runs l xs ys m h o room (parts l e)
    go false e = broken-runs l e xs ys m
