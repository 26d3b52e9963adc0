-- How a loop checks a table that is lent, one element at a time, for any element: the rules of registries and of rows have one shape. An element passes
-- where two tests hold of it and its key is found at no place before it.
--     kept                                the rules, once the sizes are right
--     Kept                                what holds where the loop has come to element i: those before it keep to them
--     at-start, at-good, at-bad, at-end   it holds at the first element, a turn keeps it, and what the loop answers is what the rules say
--     wrong_slots, too_many               what it answers where the sizes are wrong
use Prim.Native.Nat.{ℕ, zero, suc, ◌<◌, ◌≤◌}
use mathlib.Core.Path.{◌≡◌, refl, sym, ap, ◌∙◌}
use mathlib.Core.Bool.{Bool, true, false, ◌&&◌, and-false}
use mathlib.Core.List.{List, [], ◌∷◌, map}
use native.Mathlib.Omega.{arith}
use native.Mathlib.Decide.{dec_lt}
use borrow.Author.Tests.{eq-eqb, ne_eqb, le-leb, lt-leb}
use lib.Dec.{eqb, leb}
use lib.ListN.{length, get_or, take}
use lib.Seq.{take-suc}
use Rattle.codec.specs.Layout.{all}
use Rattle.codec_laws.proofs.CodesList.{all_snoc}
use Rattle.ledger_step.specs.Tables.{distinct, place}
use Rattle.ledger_step.specs.Ledgers.{holds}
use Rattle.ledger_step.proofs.TableLaws.{Tests}
use Rattle.ledger_step.proofs.PlaceSteps.{distinct-step}

-- ---- truth values
left-no : {a : Bool} (b : Bool) → a ≡ false → (a && b) ≡ false
left-no b e = rw e

right-no : (a : Bool) {b : Bool} → b ≡ false → (a && b) ≡ false
right-no true e = e
right-no false e = refl

exchanged : (a d c x y z : Bool) → ((a && x) && ((d && z) && ((c && y) && true))) ≡ ((a && (d && (c && true))) && ((x && y) && z))
exchanged false d c x y z = refl
exchanged true false c false y z = refl
exchanged true false c true y z = refl
exchanged true true false false y z = refl
exchanged true true false true y false = refl
exchanged true true false true y true = refl
exchanged true true true false y z = refl
exchanged true true true true false false = refl
exchanged true true true true false true = refl
exchanged true true true true true false = refl
exchanged true true true true true true = refl

module _ {X K : Type 0} (key : X → K) (eq : K → K → Bool) (blank : X) (p q : X → Bool) (size : ℕ) where
  abbrev pub checks : ℕ → ℕ → List X → List Bool
  checks slots n l = eqb slots size ∷ leb n size ∷ all p l ∷ distinct eq (map key l) ∷ all q l ∷ []

  unfoldable pub kept : List X → Bool
  kept l = all p l && (distinct eq (map key l) && (all q l && true))

  module _ (test : Tests eq) (l : List X) where
    -- what is asked of element i after those before it
    abbrev pub passes_at : ℕ → Bool
    passes_at i = (p (get_or l i blank) && q (get_or l i blank)) && leb i (place key eq blank (key (get_or l i blank)) (take i l))

    kept-none : kept (take 0 l) ≡ true
    unfolding kept all distinct
    kept-none = refl

    kept_step : (i : ℕ) → i < length l → kept (take (suc i) l) ≡ (kept (take i l) && passes_at i)
    unfolding kept
    kept_step i h =
        let x = get_or l i blank in
        let t : take (suc i) l ≡ _ = take-suc l i blank h in
        let a : all p (take (suc i) l) ≡ (all p (take i l) && p x) = ap (all p) t ∙ all_snoc p (take i l) x in
        let c : all q (take (suc i) l) ≡ (all q (take i l) && q x) = ap (all q) t ∙ all_snoc q (take i l) x in
        rw (a, c, distinct-step key eq blank test l i h)
        (exchanged (all p (take i l)) (distinct eq (map key (take i l))) (all q (take i l)) (p x) (q x) (leb i (place key eq blank (key x) (take i l))))

    -- ---- the loop's invariant, at element i
    abbrev pub Kept : ℕ → Type 0
    Kept i = kept (take i l) ≡ true

    pub at-start : Kept 0
    at-start = kept-none

    pub at-good : (i : ℕ) → i < length l → Kept i → passes_at i ≡ true → Kept (suc i)
    at-good i h f e = kept_step i h ∙ rw (f, e)

    fails-later : (i n : ℕ) → i ≤ n → n ≤ length l → kept (take i l) ≡ false → kept (take n l) ≡ false
    fails-later i zero m h e = let z : i ≡ 0 = omega arith in ap (λ (k : ℕ). kept (take k l)) (sym z) ∙ e
    fails-later i (suc n) m h e =
        elim (dec_lt n i) [
          | yes b ↦ let z : i ≡ suc n = omega arith in ap (λ (k : ℕ). kept (take k l)) (sym z) ∙ e
          | no b ↦ kept_step n h ∙ left-no (passes_at n) (fails-later i n (omega arith) (omega arith) e)
        ]

    -- ---- what the function answers
    sized : (n : ℕ) → length l ≡ size → n ≤ size → holds (checks (length l) n (take n l)) ≡ kept (take n l)
    unfolding holds kept
    sized n e u = rw (eq-eqb (length l) size e, le-leb n size u)

    pub wrong_slots : (n : ℕ) → (length l ≡ size → ⊥) → false ≡ holds (checks (length l) n (take n l))
    unfolding holds
    wrong_slots n h = rw (ne_eqb (length l) size h)

    pub too_many : (n : ℕ) → size < n → false ≡ holds (checks (length l) n (take n l))
    unfolding holds
    too_many n h = rw (lt-leb n size h) (sym (and-false (eqb (length l) size)))

    pub at-end : (n : ℕ) → length l ≡ size → n ≤ size → Kept n → true ≡ holds (checks (length l) n (take n l))
    at-end n e u f = sym (sized n e u ∙ f)

    pub at-bad : (n i : ℕ) → length l ≡ size → n ≤ size → i < n → passes_at i ≡ false → false ≡ holds (checks (length l) n (take n l))
    at-bad n i e u h b =
        sym (sized n e u ∙ fails-later (suc i) n (omega arith) (omega arith) (kept_step i (omega arith) ∙ right-no (kept (take i l)) b))
