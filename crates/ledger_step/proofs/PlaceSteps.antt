-- How code finds a place and keeps keys apart, for any table.
--     distinct-step    one element more keeps the keys distinct where its key is found at no place before it
--     searched         what a search through the elements answers, with their number where none has the key, is the place
use Prim.Native.Nat.{ℕ, suc, ◌+◌, ◌<◌, ◌≤◌}
use mathlib.Core.Path.{◌≡◌, refl, sym, ap, ◌∙◌}
use mathlib.Core.Bool.{Bool, true, false, cond, not, ◌&&◌}
use mathlib.Core.List.{List, [], ◌∷◌, map, map-append}
use native.Mathlib.Omega.{arith}
use borrow.Author.Tests.{ltb-true, ltb-false, le-leb, lt-leb}
use lib.Dec.{ltb, leb}
use lib.ListN.{length, get_or, take}
use lib.Seq.{take-suc, length-take-le}
use Rattle.std.specs.Prelude.{position, unwrap_or}
use Rattle.std.specs.List.{position_or_len}
use Rattle.ledger_step.specs.Tables.{has, distinct, place}
use Rattle.ledger_step.proofs.OneMore.{distinct_snoc}
use Rattle.ledger_step.proofs.TableLaws.{Tests}
use Rattle.ledger_step.proofs.PlaceLaws.{has-place, place-nil, place-cons}

not-below : (a b : ℕ) → not (ltb a b) ≡ leb b a
not-below a b = go (ltb a b) refl
  where
    go : (t : Bool) → ltb a b ≡ t → not t ≡ leb b a
    go true e = sym (lt-leb b a (ltb-true a b e))
    go false e = sym (le-leb b a (ltb-false a b e))

module _ {X K : Type 0} (key : X → K) (eq : K → K → Bool) (blank : X) where
  pub distinct-step : (test : Tests eq) (l : List X) (i : ℕ) → i < length l → distinct eq (map key (take (suc i) l)) ≡ (distinct eq (map key (take i l)) && leb i (place key eq blank (key (get_or l i blank)) (take i l)))
  distinct-step test l i h =
      let k = key (get_or l i blank) in
      let n : length (take i l) ≡ i = length-take-le i l (omega arith) in
      let e : not (has eq k (map key (take i l))) ≡ leb i (place key eq blank k (take i l)) =
      ap not (has-place key eq blank k (take i l)) ∙ (not-below (place key eq blank k (take i l)) (length (take i l)) ∙ ap (λ (m : ℕ). leb m (place key eq blank k (take i l))) n) in
      rw (take-suc l i blank h, map-append key (take i l) (get_or l i blank ∷ []), distinct_snoc eq test (map key (take i l)) k, e)

  -- the search may go through what the elements are seen from
  module _ {Y : Type 0} (seen : Y → X) (k : K) where
    abbrev there : Y → Bool
    there y = eq (key (seen y)) k

    at-place : (l : List Y) → position_or_len there l ≡ place key eq blank k (map seen l)
    at-place [] = sym (place-nil key eq blank k)
    at-place (y ∷ l) = rw (place-cons key eq blank k (seen y) (map seen l)) (go (there y) _ _ (at-place l))
      where
        go : (t : Bool) (m n : ℕ) → m ≡ n → cond (not t) (1 + m) 0 ≡ cond t 0 (suc n)
        go true m n e = refl
        go false m n e = omega arith

    up-to : (l : List Y) → position_or_len there l ≤ length l
    up-to [] = omega arith
    up-to (y ∷ l) = go (there y) _ _ (up-to l)
      where
        go : (t : Bool) (m n : ℕ) → m ≤ n → cond (not t) (1 + m) 0 ≤ suc n
        go true m n h = omega arith
        go false m n h = omega arith

    pub searched : (l : List Y) (n : ℕ) → n ≡ length l → unwrap_or (position there l) n ≡ place key eq blank k (map seen l)
    searched l n size = go (ltb (position_or_len there l) (length l)) refl
      where
        go : (t : Bool) → ltb (position_or_len there l) (length l) ≡ t → unwrap_or (position there l) n ≡ place key eq blank k (map seen l)
        go true e = rw e (at-place l)
        go false e = rw e (let b = ltb-false (position_or_len there l) (length l) e in let q : n ≡ position_or_len there l = omega (arith, size, b, up-to l) in q ∙ at-place l)
