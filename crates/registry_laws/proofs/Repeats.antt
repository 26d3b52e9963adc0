-- Lists of backers without repeats.
--     sound-different, different-sound   the rules on a list find nothing where no two prefixes are equal, and there alone
--     updated-sound                      a rotation that they let through leaves such a list, where it found one
use Prim.Native.Nat.{ℕ, zero, suc, ◌<◌}
use mathlib.Core.Path.{◌≡◌, refl, sym, ◌∙◌}
use mathlib.Core.Logic.{◌≢◌}
use mathlib.Core.Bool.{Bool, true, false, cond, true≢false}
use mathlib.Core.List.{List, [], ◌∷◌, ◌++◌}
use native.Mathlib.Omega.{arith}
use lib.ListN.{length, take}
use lib.Seq.{length-take-le, get_or-take}
use Rattle.cesr.specs.declared.BasicPrefix.{BasicPrefix}
use Rattle.cesr.specs.Primitives.{eq_prefix}
use Rattle.cesr.proofs.Matters.{eq-prefix}
use Rattle.events.specs.Members.{no_prefix, at, has, breaks, sound, check, or_else, check_members, check_deltas, check_current}
use Rattle.events.specs.declared.Rule.TheVariants.{DuplicateCut, DuplicateAddition, CutAddOverlap, RemovalNotCurrent, AdditionAlreadyPresent}
use Rattle.events.proofs.MemberLaws.{has-found, has-none, sound-all, sound-apart, distinct-sound}
use Rattle.registry.specs.Starred.{All, Different}
use Rattle.registry_members.specs.Updated.{survivors, updated_members}
use Rattle.registry_laws.proofs.Chains.{else-first, else-second}

-- a statement about every element is one about every place
module _ (P : BasicPrefix → Type 0) where
  places-all : (l : List BasicPrefix) → ((k : ℕ) → k < length l → P (at l k)) → All P l
  places-all [] h = tt
  places-all (x ∷ l) h = (h 0 (omega arith), places-all l (λ k b. h (suc k) (omega arith)))

  all-places : (l : List BasicPrefix) → All P l → (k : ℕ) → k < length l → P (at l k)
  all-places [] h k b = absurd (omega arith)
  all-places (x ∷ l) h zero b = h.0
  all-places (x ∷ l) h (suc k) b = all-places l h.1 k (omega arith)

  all_join : (l k : List BasicPrefix) → All P l → All P k → All P (l ++ k)
  all_join [] k h j = j
  all_join (x ∷ l) k h j = (h.0, all_join l k h.1 j)

  all-survivors : (cuts l : List BasicPrefix) → All P l → All P (survivors cuts l)
  unfolding survivors
  all-survivors cuts [] h = tt
  all-survivors cuts (x ∷ l) h = go (has x cuts) (all-survivors cuts l h.1)
    where
      go : (t : Bool) → All P (survivors cuts l) → All P (cond t (survivors cuts l) (x ∷ survivors cuts l))
      go true j = j
      go false j = (h.0, j)

apart-different : (l : List BasicPrefix) → ((i j : ℕ) → i < j → j < length l → at l i ≢ at l j) → Different l
apart-different [] h = tt
apart-different (x ∷ l) h =
    (places-all (λ y. x ≢ y) l (λ k b. h 0 (suc k) (omega arith) (omega arith)), apart-different l (λ i j p q. h (suc i) (suc j) (omega arith) (omega arith)))

different-apart : (l : List BasicPrefix) → Different l → (i j : ℕ) → i < j → j < length l → at l i ≢ at l j
different-apart [] d i j p q = absurd (omega arith)
different-apart (x ∷ l) d i zero p q = absurd (omega arith)
different-apart (x ∷ l) d zero (suc j) p q = all-places (λ y. x ≢ y) l d.0 j (omega arith)
different-apart (x ∷ l) d (suc i) (suc j) p q = different-apart l d.1 i j (omega arith) (omega arith)

pub sound-different : (l : List BasicPrefix) → check_members l ≡ sound → Different l
sound-different l e = apart-different l (sound-apart l e)

pub different-sound : (l : List BasicPrefix) → Different l → check_members l ≡ sound
different-sound l d = distinct-sound l (λ i b. go i b (has (at l i) (take i l)) refl)
  where
    go : (i : ℕ) → i < length l → (t : Bool) → has (at l i) (take i l) ≡ t → has (at l i) (take i l) ≡ false
    go i b true e =
        let w = has-found (at l i) (take i l) e in
        let k : w.0 < i = omega (arith, w.1, length-take-le i l (omega arith)) in
        absurd (different-apart l d w.0 i k b (sym (get_or-take i l w.0 no_prefix k) ∙ w.2))
    go i b false e = e

different-join : (l k : List BasicPrefix) → Different l → Different k → All (λ x. All (λ y. x ≢ y) k) l → Different (l ++ k)
different-join [] k d e f = e
different-join (x ∷ l) k d e f = (all_join (λ y. x ≢ y) l k d.0 f.0, different-join l k d.1 e f.1)

different-survivors : (cuts l : List BasicPrefix) → Different l → Different (survivors cuts l)
unfolding survivors
different-survivors cuts [] d = tt
different-survivors cuts (x ∷ l) d = go (has x cuts) (different-survivors cuts l d.1)
  where
    go : (t : Bool) → Different (survivors cuts l) → Different (cond t (survivors cuts l) (x ∷ survivors cuts l))
    go true j = j
    go false j = (all-survivors (λ y. x ≢ y) cuts l d.0, j)

-- additions that are let through have no repeats
additions-different : (cuts additions : List BasicPrefix) → check_deltas cuts additions ≡ sound → Different additions
unfolding check_deltas breaks
additions-different cuts additions e =
    let overlap = check CutAddOverlap cuts additions in
    let repeats = check DuplicateAddition additions [] in
    let s = else-first repeats overlap (else-second (check DuplicateCut cuts []) (or_else repeats overlap) e) in
    sound-different additions (distinct-sound additions (sound-all DuplicateAddition additions [] s))

-- and none of them is among the backers
additions-new : (current cuts additions : List BasicPrefix) → check_current current cuts additions ≡ sound → All (λ x. All (λ y. x ≢ y) additions) current
unfolding check_current breaks
additions-new current cuts additions e =
    let s = else-second (check RemovalNotCurrent cuts current) (check AdditionAlreadyPresent additions current) e in
    places-all (λ x. All (λ y. x ≢ y) additions) current
    (λ i b. places-all (λ y. at current i ≢ y) additions
    (λ k c q.
    let differ = has-none (at additions k) current (sound-all AdditionAlreadyPresent additions current s k c) i b in
    let same : eq_prefix (at current i) (at additions k) ≡ true = rw q (eq-prefix (at additions k)) in
    true≢false (sym same ∙ differ)))

pub updated-sound : (current cuts additions : List BasicPrefix) → check_members current ≡ sound → check_deltas cuts additions ≡ sound → check_current current cuts additions ≡ sound → check_members (updated_members current cuts additions) ≡ sound
unfolding updated_members
updated-sound current cuts additions s d c =
    different-sound (survivors cuts current ++ additions)
    (different-join (survivors cuts current) additions (different-survivors cuts current (sound-different current s)) (additions-different cuts additions d)
    (all-survivors (λ x. All (λ y. x ≢ y) additions) cuts current (additions-new current cuts additions c)))
