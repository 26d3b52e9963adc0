-- Laws of lists of backers, and of the rules on them.
--     view-size, view-at, view-push, view-counted
--                                       an array and a count, seen as a list
--     push-done, push_full              what a push answers
--     has-any                           the library's word for it
--     has-at, has-place, has-none       whether a prefix is in a list, and at which place
--     has-member, has-found             the same with equal prefixes
--     all_sound, sound-all              a rule is kept where no place breaks it, and there alone
--     broken-same                       equal refusals name one rule and one place
--     broken-rule, broken-below, broken-breaks, broken-least
--                                       a refusal names the rule that was checked, and the least place that breaks it
--     breaks-is, walked                 whether a place breaks a rule, by what its element is held against; so on a walk along the list
--     walk-head, walk-tail              the element that a walk has come to, and the next place
--     repeat-alone                      a repeat is looked for in its own list alone
--     distinct-sound, sound-distinct, sound-apart
--                                       a list is sound where no element stands before its place too, and there alone
--     members-offends, deltas-offends, current-offends
--                                       the element at the position of an answer breaks the rule that it names
use Prim.Native.Nat.{ℕ, zero, suc, ◌+◌, ◌<◌, ◌≤◌, min}
use mathlib.Core.Path.{◌≡◌, refl, ap, sym, ◌∙◌}
use mathlib.Core.Bool.{beq, Bool, true, false, cond, not, ◌||◌, or-true, or-false, true≢false, false≢true}
use mathlib.Core.List.{List, [], ◌∷◌, ◌++◌}
use native.Mathlib.Omega.{arith}
use native.Mathlib.Nat.{add-zero}
use borrow.Author.Tests.{lt-ltb, le-ltb, ltb-true, ltb-false}
use lib.ListN.{length, length-drop, take, drop, set, get_or, get_or-eq_default, length-take}
use lib.Seq.{drop-drop, length-take-le, get_or-take}
use lib.Dec.{ltb}
use Rattle.cesr.specs.First.{first}
use Rattle.cesr.proofs.First.{first-none, first_found, first_holds, first-least}
use Rattle.cesr.proofs.Views.{kept-size, kept_at, kept_push, take_step}
use Rattle.cesr.specs.declared.BasicPrefix.{BasicPrefix}
use Rattle.cesr.specs.Primitives.{eq_prefix}
use Rattle.cesr.proofs.Matters.{eq-prefix, prefix-eq}
use Rattle.events.specs.declared.Members.{Members}
use Rattle.events.specs.declared.Broken.{Broken}
use Rattle.events.specs.declared.Rule.{Rule}
use Rattle.events.specs.declared.Rule.TheVariants.{DuplicateBacker, DuplicateCut, DuplicateAddition, CutAddOverlap, RemovalNotCurrent, AdditionAlreadyPresent}
use Rattle.std.specs.Prelude.{Ok, Err}
use Rattle.std.specs.List.{list_any}
use Rattle.std.proofs.lemmas.List.{get_or-drop}
use Rattle.events.specs.Members.{view, no_prefix, at, pushed, has, Membership, sound, broken, membership_number, breaks, is_repeat, is_missing, check, or_else, check_members, check_deltas, check_current, Lists, subject, against, Offends}

module _ (m : Members) (h : length m.items ≡ 16) where
  pub view-size : length (view m) ≡ min m.count 16
  unfolding view
  view-size = kept-size m.count 16 m.items h

  pub view-at : (i : ℕ) → i < length (view m) → get_or m.items i no_prefix ≡ at (view m) i
  unfolding view
  view-at i b = kept_at m.count 16 m.items h i no_prefix b

  pub view-push : (p : BasicPrefix) → m.count < 16 → view (record { items = set m.items m.count p; count = m.count + 1 }) ≡ view m ++ (p ∷ [])
  unfolding view
  view-push p b = kept_push m.count 16 m.items h p (omega (arith, kept-size m.count 16 m.items h))

-- there are no more than the count says
pub view-counted : (m : Members) → length (view m) ≤ m.count
unfolding view
view-counted m = omega (arith, length-take m.count m.items)

-- past the end there is no member
pub at_none : (l : List BasicPrefix) (i : ℕ) → length l ≤ i → at l i ≡ no_prefix
at_none l i b = get_or-eq_default l no_prefix b

pub pushed_room : (l : List BasicPrefix) (p : BasicPrefix) → length l < 16 → pushed l p ≡ l ++ (p ∷ [])
unfolding pushed
pushed_room l p b = rw (lt-ltb (length l) 16 b)

pub pushed-full : (l : List BasicPrefix) (p : BasicPrefix) → 16 ≤ length l → pushed l p ≡ l
unfolding pushed
pushed-full l p b = rw (le-ltb (length l) 16 b)

-- what a push answers: where it finds room the prefix stands behind the others, and where it finds none there are 16
pub push-done : (l k : List BasicPrefix) (p : BasicPrefix) → true ≡ ltb (length l) 16 → k ≡ pushed l p → k ≡ l ++ (p ∷ [])
push-done l k p e f = f ∙ pushed_room l p (ltb-true (length l) 16 (sym e))

pub push_full : (l : List BasicPrefix) → false ≡ ltb (length l) 16 → 16 ≤ length l
push_full l e = ltb-false (length l) 16 (sym e)

pub has-append : (x : BasicPrefix) (a b : List BasicPrefix) → has x (a ++ b) ≡ (has x a || has x b)
unfolding has
has-append x [] b = refl
has-append x (y ∷ a) b = go (eq_prefix y x) (has-append x a b)
  where
    go : (t : Bool) → has x (a ++ b) ≡ (has x a || has x b) → (t || has x (a ++ b)) ≡ ((t || has x a) || has x b)
    go true e = refl
    go false e = e

-- the same, as the library says whether a test holds of some element
pub has-any : (x : BasicPrefix) (l : List BasicPrefix) → has x l ≡ list_any (λ y. eq_prefix y x) l
unfolding has
has-any x [] = refl
has-any x (y ∷ l) = rw (has-any x l)

-- an element that stands at a place is found
pub has-at : (x : BasicPrefix) (l : List BasicPrefix) (k : ℕ) → k < length l → eq_prefix (at l k) x ≡ true → has x l ≡ true
unfolding has
has-at x [] k b e = absurd (omega arith)
has-at x (y ∷ l) zero b e = rw e
has-at x (y ∷ l) (suc k) b e = rw (has-at x l k (omega arith) e) (or-true (eq_prefix y x))

-- and what is found stands at a place
pub has-place : (x : BasicPrefix) (l : List BasicPrefix) → has x l ≡ true → (k : ℕ) × (k < length l) × (eq_prefix (at l k) x ≡ true)
unfolding has
has-place x [] e = absurd (false≢true e)
has-place x (y ∷ l) e = go (eq_prefix y x) refl (has-place x l) e
  where
    go : (t : Bool) → eq_prefix y x ≡ t → (has x l ≡ true → (k : ℕ) × (k < length l) × (eq_prefix (at l k) x ≡ true)) → (t || has x l) ≡ true → (k : ℕ) × (k < suc (length l)) × (eq_prefix (at (y ∷ l) k) x ≡ true)
    go true p rest e = (0, omega arith, p)
    go false p rest e = let w = rest e in (suc w.0, omega (arith, w.1), w.2)

-- what is not found stands at no place
pub has-none : (x : BasicPrefix) (l : List BasicPrefix) → has x l ≡ false → (k : ℕ) → k < length l → eq_prefix (at l k) x ≡ false
has-none x l e k b = go (eq_prefix (at l k) x) refl
  where
    go : (t : Bool) → eq_prefix (at l k) x ≡ t → eq_prefix (at l k) x ≡ false
    go true p = absurd (true≢false (sym (has-at x l k b p) ∙ e))
    go false p = p

-- equality is a prefix's own, so the same holds of the prefixes themselves
pub has-member : (l : List BasicPrefix) (k : ℕ) → k < length l → has (at l k) l ≡ true
has-member l k b = has-at (at l k) l k b (eq-prefix (at l k))

pub has-found : (x : BasicPrefix) (l : List BasicPrefix) → has x l ≡ true → (k : ℕ) × (k < length l) × (at l k ≡ x)
has-found x l e = let w = has-place x l e in (w.0, w.1, prefix-eq (at l w.0) x w.2)

-- one element more is looked at
pub has-step : (x : BasicPrefix) (l : List BasicPrefix) (i : ℕ) → i < length l → has x (take (i + 1) l) ≡ (has x (take i l) || eq_prefix (at l i) x)
unfolding has
has-step x l i b = rw (take_step l i no_prefix b, has-append x (take i l) (at l i ∷ []), or-false (eq_prefix (at l i) x))

-- an element that stands before n is found among the first n
pub has-below : (x : BasicPrefix) (l : List BasicPrefix) (n i : ℕ) → i < n → n ≤ length l → eq_prefix (at l i) x ≡ true → has x (take n l) ≡ true
has-below x l n i b h e = has-at x (take n l) i (rw (length-take-le n l h) b) (rw (get_or-take n l i no_prefix b) e)

-- two refusals that are equal name one rule and one place
pub broken-same : (r q : Rule) (i j : ℕ) → broken r i ≡ broken q j → (r ≡ q) × (i ≡ j)
broken-same r q i j e =
    let b : record { rule = r; at = i } ≡ record { rule = q; at = j } = cc in
    (ap (λ (x : Broken). x.rule) b, ap (λ (x : Broken). x.at) b)

module _ (r : Rule) (l o : List BasicPrefix) where
  abbrev P : ℕ → Bool
  P = breaks r l o

  -- a loop that stops at the first place that breaks the rule, or at the end
  pub check-found : (i : ℕ) → i < length l → ((k : ℕ) → k < i → breaks r l o k ≡ false) → breaks r l o i ≡ true → check r l o ≡ broken r i
  unfolding check
  check-found i b below here = rw (first_found P (length l) i b below here, lt-ltb i (length l) b)

  pub all_sound : ((k : ℕ) → k < length l → breaks r l o k ≡ false) → check r l o ≡ sound
  unfolding check
  all_sound none = rw (first-none P (length l) none, le-ltb (length l) (length l) (omega arith))

  pub sound-all : check r l o ≡ sound → (k : ℕ) → k < length l → breaks r l o k ≡ false
  unfolding check
  sound-all e k b = go (ltb (first P (length l)) (length l)) refl e
    where
      go : (t : Bool) → ltb (first P (length l)) (length l) ≡ t → cond t (broken r (first P (length l))) sound ≡ sound → breaks r l o k ≡ false
      go true p e = absurd (omega (arith, ap membership_number e))
      go false p e = first-least P (length l) k (omega (arith, ltb-false (first P (length l)) (length l) p))

  -- a refusal names the rule, and the first place that breaks it
  broken-first : (q : Rule) (i : ℕ) → check r l o ≡ broken q i → (q ≡ r) × (i ≡ first P (length l)) × (first P (length l) < length l)
  unfolding check
  broken-first q i e = go (ltb (first P (length l)) (length l)) refl e
    where
      go : (t : Bool) → ltb (first P (length l)) (length l) ≡ t → cond t (broken r (first P (length l))) sound ≡ broken q i → (q ≡ r) × (i ≡ first P (length l)) × (first P (length l) < length l)
      go true p e = let w = broken-same r q (first P (length l)) i e in (sym w.0, sym w.1, ltb-true (first P (length l)) (length l) p)
      go false p e = absurd (omega (arith, ap membership_number e))

  pub broken-rule : (q : Rule) (i : ℕ) → check r l o ≡ broken q i → q ≡ r
  broken-rule q i e = (broken-first q i e).0

  pub broken-below : (q : Rule) (i : ℕ) → check r l o ≡ broken q i → i < length l
  broken-below q i e = let w = broken-first q i e in rw w.1 w.2

  pub broken-breaks : (q : Rule) (i : ℕ) → check r l o ≡ broken q i → breaks r l o i ≡ true
  broken-breaks q i e = let w = broken-first q i e in rw w.1 (first_holds P (length l) w.2)

  -- the position is the least that breaks the rule
  pub broken-least : (q : Rule) (i : ℕ) → check r l o ≡ broken q i → (k : ℕ) → k < i → breaks r l o k ≡ false
  broken-least q i e k b = let w = broken-first q i e in first-least P (length l) k (rw w.1 at b)

-- whether a place breaks a rule, by what its element is held against
pub breaks-is : (r : Rule) (l o : List BasicPrefix) (i : ℕ) → breaks r l o i ≡ cond (is_missing r) (not (has (at l i) (cond (is_repeat r) (take i l) o))) (has (at l i) (cond (is_repeat r) (take i l) o))
unfolding breaks
breaks-is DuplicateBacker l o i = refl
breaks-is DuplicateCut l o i = refl
breaks-is DuplicateAddition l o i = refl
breaks-is CutAddOverlap l o i = refl
breaks-is RemovalNotCurrent l o i = refl
breaks-is AdditionAlreadyPresent l o i = refl

-- a walk along a list, that has come to place i: its head is the element there
pub walk-head : (l rest : List BasicPrefix) (i : ℕ) (x : BasicPrefix) → i < length l → rest ≡ drop i l → (0 < length rest → x ≡ at rest 0) → x ≡ at l i
walk-head l rest i x b e h = h (rw e (omega (arith, length-drop i l))) ∙ rw e (simp add-zero at (get_or-drop i l 0 no_prefix))

-- and its next is the next place
pub walk-tail : (l rest next : List BasicPrefix) (i : ℕ) → rest ≡ drop i l → next ≡ drop 1 rest → next ≡ drop (i + 1) l
walk-tail l rest next i e f = f ∙ rw e (drop-drop 1 i l)

-- the same of the element that a walk along the list has come to, by whether it was found
pub walked : (r : Rule) (l o rest : List BasicPrefix) (i : ℕ) (x : BasicPrefix) (found missing : Bool) → i < length l → rest ≡ drop i l → (0 < length rest → x ≡ at rest 0) → found ≡ has x (cond (is_repeat r) (take i l) o) → missing ≡ is_missing r → breaks r l o i ≡ not (beq found missing)
walked r l o rest i x found missing b e h f m =
    let here = walk-head l rest i x b e h in
    breaks-is r l o i ∙ rw (← here, ← f, ← m) (go missing found)
  where
    go : (m f : Bool) → cond m (not f) f ≡ not (beq f m)
    go true true = refl
    go true false = refl
    go false true = refl
    go false false = refl

-- a repeat is looked for in its own list alone
pub repeat-alone : (r : Rule) (l o p : List BasicPrefix) → is_repeat r ≡ true → check r l o ≡ check r l p
unfolding check breaks
repeat-alone DuplicateBacker l o p e = refl
repeat-alone DuplicateCut l o p e = refl
repeat-alone DuplicateAddition l o p e = refl
repeat-alone CutAddOverlap l o p e = absurd (false≢true e)
repeat-alone RemovalNotCurrent l o p e = absurd (false≢true e)
repeat-alone AdditionAlreadyPresent l o p e = absurd (false≢true e)

-- a list is sound where none of its elements stands before its place too, and there alone
pub sound-distinct : (l : List BasicPrefix) → check_members l ≡ sound → (i : ℕ) → i < length l → has (at l i) (take i l) ≡ false
unfolding check_members breaks
sound-distinct l e = sound-all DuplicateBacker l [] e

pub distinct-sound : (l : List BasicPrefix) → ((i : ℕ) → i < length l → has (at l i) (take i l) ≡ false) → check_members l ≡ sound
unfolding check_members breaks
distinct-sound l h = all_sound DuplicateBacker l [] h

-- two places of a sound list have two prefixes
pub sound-apart : (l : List BasicPrefix) → check_members l ≡ sound → (i j : ℕ) → i < j → j < length l → at l i ≡ at l j → ⊥
sound-apart l e i j b h q =
    let u : eq_prefix (at l i) (at l j) ≡ true = rw q (eq-prefix (at l j)) in
    true≢false (sym (has-below (at l j) l j i b (omega arith) u) ∙ sound-distinct l e j h)

check-offends : (r : Rule) (s : Lists) → Offends (check r (subject r s) (against r s)) s
unfolding check Offends
check-offends r s = go (ltb f n) refl
  where
    n : ℕ
    n = length (subject r s)

    f : ℕ
    f = first (breaks r (subject r s) (against r s)) n

    go : (t : Bool) → ltb f n ≡ t → Offends (cond t (broken r f) sound) s
    go true p = (ltb-true f n p, first_holds (breaks r (subject r s) (against r s)) n (ltb-true f n p))
    go false p = tt

else-offends : (a b : Membership) (s : Lists) → Offends a s → Offends b s → Offends (or_else a b) s
else-offends (Ok u) b s p q = q
else-offends (Err x) b s p q = p

-- the element at the position of an answer breaks the rule that it names
pub members-offends : (backers : List BasicPrefix) → Offends (check_members backers) (record { backers = backers; cuts = []; additions = [] })
unfolding check_members
members-offends backers = check-offends DuplicateBacker (record { backers = backers; cuts = []; additions = [] })

pub deltas-offends : (cuts additions : List BasicPrefix) → Offends (check_deltas cuts additions) (record { backers = []; cuts = cuts; additions = additions })
unfolding check_deltas
deltas-offends cuts additions =
    let s : Lists = record { backers = []; cuts = cuts; additions = additions } in
    else-offends _ _ s (check-offends DuplicateCut s) (else-offends _ _ s (check-offends DuplicateAddition s) (check-offends CutAddOverlap s))

pub current-offends : (current cuts additions : List BasicPrefix) → Offends (check_current current cuts additions) (record { backers = current; cuts = cuts; additions = additions })
unfolding check_current
current-offends current cuts additions =
    let s : Lists = record { backers = current; cuts = cuts; additions = additions } in
    else-offends _ _ s (check-offends RemovalNotCurrent s) (check-offends AdditionAlreadyPresent s)
