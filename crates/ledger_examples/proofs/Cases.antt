-- What a condition, or a difference, comes to for the bytes of two messages within the limits, exchanged.
--     runs-differ    runs whose numbers differ at the places of one attempt
--     Computed       what is computed of an example
--     inceptions, heads, rotations, pairs, rows    the five conditions, by what the two ask
--     needed         and so one of them is needed
use Prim.Native.Nat.{ℕ, zero, suc, ◌+◌, ◌-◌, ◌<◌}
use mathlib.Core.Path.{◌≡◌, refl, sym, ap, ◌∙◌}
use mathlib.Core.Logic.{◌≢◌}
use mathlib.Core.Bool.{true, false}
use mathlib.Core.Option
use mathlib.Core.Option.{Option, none, some, none-ne-some, some-injective}
use mathlib.Core.List.{List, [], ◌∷◌, map}
use borrow.Author.Tests.{leb-true}
use lib.Dec.{leb}
use lib.ListN.{length, get_elem?}
use Rattle.registry_wire.specs.Attempts.{Message, attempt_bytes, good_message}
use Rattle.ledger_step.specs.Ledgers.{Ledger}
use Rattle.ledger_step.specs.Steps.{Request, event_request, request_of}
use Rattle.ledger_step.specs.Orders.{Each, Matched, KeepsOrder}
use Rattle.ledger_step.specs.OrderFreedom.{Result, results_of, new_pair_by, once, new_pairs, SameRuns}
use Rattle.ledger_examples.specs.Conditions.{Condition, is_inception, by_head, rotates, names, Holds, numbers_of, bytes_of, Whole, Needed}
use Rattle.ledger_examples.specs.Conditions.Condition.{no_inceptions, no_present_heads, rotations_in_order, pairs_in_order, room}
use Rattle.ledger_examples.proofs.Asked.{asks, numbers_by, numbers-by}
use Rattle.ledger_examples.proofs.Exchanges.{exchanged, keeps, both}

-- no class has both
abbrev pub Apart : {K : Type 0} → Option K → Option K → Type 0
Apart none p = Unit
Apart (some a) none = Unit
Apart (some a) (some b) = a ≢ b

apart : {K : Type 0} (o p : Option K) → Apart o p → (k : K) → o ≡ some k → p ≡ some k → ⊥
apart none p h k e f = none-ne-some _ e
apart (some a) none h k e f = none-ne-some _ f
apart (some a) (some b) h k e f = h (some-injective _ _ e ∙ sym (some-injective _ _ f))

map_at : {A B : Type 0} (f : A → B) (l : List A) (i : ℕ) → get_elem? (map f l) i ≡ Option.map f (get_elem? l i)
map_at f [] i = refl
map_at f (x ∷ l) zero = refl
map_at f (x ∷ l) (suc i) = map_at f l i

pub runs-differ : (l : Ledger) (xs ys : List (List ℕ)) (m : Matched xs ys) (ns ks : List ℕ) → numbers_of l xs ≡ ns → numbers_of l ys ≡ ks → (i n k : ℕ) → i < length xs → get_elem? ns i ≡ some n → get_elem? ks (m.to i) ≡ some k → n ≢ k → ¬ SameRuns l xs ys m
runs-differ l xs ys m ns ks e f i n k h p q ne r =
    let number : Result → ℕ = λ (x : Result). x.number in
    let a : some n ≡ Option.map number (get_elem? (results_of l xs) i) = sym p ∙ ap (λ (z : List ℕ). get_elem? z i) (sym e) ∙ map_at number (results_of l xs) i in
    let b : some k ≡ Option.map number (get_elem? (results_of l ys) (m.to i)) = sym q ∙ ap (λ (z : List ℕ). get_elem? z (m.to i)) (sym f) ∙ map_at number (results_of l ys) (m.to i) in
    ne (some-injective _ _ (a ∙ ap (Option.map number) (r.results i h) ∙ sym b))

abbrev pub asked : Message → Request
asked a = event_request a.event a

abbrev pub matching : (a b : Message) → Matched (bytes_of a b) (bytes_of b a)
matching a b = exchanged (attempt_bytes a) (attempt_bytes b)

-- what is computed of an example: its messages are within the limits, its ledger is whole, and the numbers of the two runs
pub record Computed (l : Ledger) (a b : Message) (ns ks : List ℕ) : Type 0 where
  pub good-first : good_message a ≡ true
  pub good-second : good_message b ≡ true
  pub whole : Whole l
  pub first : numbers_by l (asked a ∷ asked b ∷ []) ≡ ns
  pub second : numbers_by l (asked b ∷ asked a ∷ []) ≡ ks

module _ {l : Ledger} {a b : Message} {ns ks : List ℕ} (x : Computed l a b ns ks) where
  asks-a : request_of (attempt_bytes a) ≡ asked a
  asks-a = asks a x.good-first

  asks-b : request_of (attempt_bytes b) ≡ asked b
  asks-b = asks b x.good-second

  each-asks : (P : Request → Type 0) → P (asked a) → P (asked b) → Each (λ s. P (request_of s)) (bytes_of a b)
  each-asks P p q = both (attempt_bytes a) (attempt_bytes b) (λ s. P (request_of s)) (rw asks-a p) (rw asks-b q)

  kept_by : {K : Type 0} (read : Request → Option K) → Apart (read (asked a)) (read (asked b)) → KeepsOrder (λ s. read (request_of s)) (matching a b)
  kept_by read h = keeps (attempt_bytes a) (attempt_bytes b) (λ s. read (request_of s)) (apart _ _ (rw (asks-a, asks-b) h))

  pub inceptions : is_inception (asked a) ≡ false → is_inception (asked b) ≡ false → Holds no_inceptions l (matching a b)
  inceptions = each-asks (λ q. is_inception q ≡ false)

  pub heads : by_head (asked a) ≡ false → by_head (asked b) ≡ false → Holds no_present_heads l (matching a b)
  heads = each-asks (λ q. by_head q ≡ false)

  pub rotations : Apart (rotates (asked a)) (rotates (asked b)) → Holds rotations_in_order l (matching a b)
  rotations = kept_by rotates

  pub pairs : Apart (names (asked a)) (names (asked b)) → Holds pairs_in_order l (matching a b)
  pairs = kept_by names

  pub rows : leb (l.row_count + length (once (new_pair_by l (asked a)) (once (new_pair_by l (asked b)) []))) 256 ≡ true → Holds room l (matching a b)
  unfolding new_pairs
  rows h = rw (asks-a, asks-b) (leb-true _ _ h)

  -- so what is left are the other conditions, and the place of an attempt that gets the number n in the one run and k in the other
  pub needed : (c : Condition) → ((d : Condition) → d ≢ c → Holds d l (matching a b)) → (i n k : ℕ) → i < 2 → get_elem? ns i ≡ some n → get_elem? ks (1 - i) ≡ some k → n ≢ k → Needed c l a b ns ks
  needed c others i n k h p q ne =
      let f : numbers_of l (bytes_of a b) ≡ ns = numbers-by l (bytes_of a b) ∙ rw (asks-a, asks-b) x.first in
      let g : numbers_of l (bytes_of b a) ≡ ks = numbers-by l (bytes_of b a) ∙ rw (asks-a, asks-b) x.second in
      record
      { whole = x.whole; first = f; second = g; matched = matching a b; others = others; differ = runs-differ l (bytes_of a b) (bytes_of b a) (matching a b) ns ks f g i n k h p q ne }
