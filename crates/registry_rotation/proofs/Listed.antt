-- Lists that stay in the bytes.
--     times-front, times-at               the first of the elements that are read, and one of them
--     times-turned, times-behind, times-nothing
--                                         the first of them, and those behind it
--     all_listed                          a list that stays in the bytes, by its size
--     listed-size, listed-head, listed-tail, listed-front
--                                         how long it is, its first prefix, those behind it, and the first of them
--     counted_listed                      the same list, by its length
--     has_more                            one prefix more that is looked at
use Prim.Native.Nat.{ℕ, zero, suc, ◌+◌, ◌<◌, ◌≤◌, ◌-◌, min}
use mathlib.Core.Path.{◌≡◌, refl, ap, sym, ◌∙◌}
use mathlib.Core.Bool.{Bool, true, false, ◌||◌, or-false}
use mathlib.Core.List.{List, [], ◌∷◌, ◌++◌}
use native.Mathlib.Omega.{arith}
use native.Mathlib.Numerals.{add-one}
use native.Mathlib.Decide.{ℕ_discrete}
use borrow.Author.Tests.{ltb-true, ltb-false}
use lib.Dec.{ltb}
use lib.ListN.{length, take, drop, get_or, get_or-append}
use lib.Seq.{take_all, take-append-le, get_or_at}
use Rattle.cesr.specs.declared.BasicPrefix.{BasicPrefix}
use Rattle.cesr.specs.Primitives.{read_matter, eq_matter}
use Rattle.events.specs.Members.{at, no_prefix, has}
use Rattle.events.proofs.MemberLaws.{has-append}
use Rattle.codec.specs.declared.Listed.{Listed}
use Rattle.codec.specs.TelEvents.{members_in}
use Rattle.codec.specs.declared.Cursor.{Cursor}
use Rattle.codec.proofs.Loops.{length-times}
use Rattle.codec.specs.Readers.{Reader, read_if, read_prefix, times}
use Rattle.codec.specs.declared.Read.{Read}

module _ {A : Type 0} (p : Reader A) (s : List ℕ) (c : Cursor) where
  -- fewer elements are the first of more
  pub times-front : (n i : ℕ) → i ≤ n → take i (times n p s c).value ≡ (times i p s c).value
  unfolding times
  times-front zero zero b = refl
  times-front zero (suc i) b = absurd (omega arith)
  times-front (suc n) i b = go (ℕ_discrete i (suc n)) (times-front n i)
    where
      go : Dec (i ≡ suc n) → (i ≤ n → take i (times n p s c).value ≡ (times i p s c).value) → take i (times (suc n) p s c).value ≡ (times i p s c).value
      go (yes e) less = rw e (take_all (suc n) (times (suc n) p s c).value (omega (arith, length-times p s c (suc n))))
      go (no d) less = take-append-le i (times n p s c).value _ (omega (arith, length-times p s c n)) ∙ less (omega arith)

  pub times-at : (n i : ℕ) (d : A) → i < n → get_or (times n p s c).value i d ≡ (p s (times i p s c).next).value
  unfolding times
  times-at zero i d b = absurd (omega arith)
  times-at (suc n) i d b = go (ℕ_discrete i n) (times-at n i d)
    where
      go : Dec (i ≡ n) → (i < n → get_or (times n p s c).value i d ≡ (p s (times i p s c).next).value) → get_or (times (suc n) p s c).value i d ≡ (p s (times i p s c).next).value
      go (yes e) less = rw e (get_or_at (times n p s c).value _ [] d n (length-times p s c n))
      go (no h) less = get_or-append (times n p s c).value _ d i (omega (arith, length-times p s c n)) ∙ less (omega arith)

  -- the first of the elements that are read, and those behind it
  pub times-turned : (n : ℕ) → times (suc n) p s c ≡ record { value = (p s c).value ∷ (times n p s (p s c).next).value; next = (times n p s (p s c).next).next }
  unfolding times
  times-turned zero = refl
  times-turned (suc n) = ap (λ (r : Read (List A)). record { value = r.value ++ ((p s r.next).value ∷ []); next = (p s r.next).next }) (times-turned n)

  pub times-behind : (n : ℕ) → drop 1 (times (suc n) p s c).value ≡ (times n p s (p s c).next).value
  times-behind n = rw (times-turned n)

  pub times-nothing : (d : Cursor) → drop 1 (times zero p s c).value ≡ (times zero p s d).value
  unfolding times
  times-nothing d = refl

-- a list that stays in the bytes, by its size
pub all_listed : (s : List ℕ) (l : Listed) (n : ℕ) → n ≡ min l.count 16 → members_in s l ≡ (times n read_prefix s l.start).value
unfolding members_in
all_listed s l n e = rw e

module _ (s : List ℕ) (l : Listed) where
  pub listed-size : (n : ℕ) → n ≡ min l.count 16 → n ≡ length (members_in s l)
  listed-size n e = rw (all_listed s l n e) (sym (length-times read_prefix s l.start n))

  pub counted_listed : (n : ℕ) → n ≡ length (members_in s l) → members_in s l ≡ (times n read_prefix s l.start).value
  counted_listed n e = all_listed s l n (e ∙ sym (listed-size (min l.count 16) refl))

  pub listed-head : 0 < length (members_in s l) → (read_prefix s l.start).value ≡ at (members_in s l) 0
  unfolding members_in times
  listed-head b =
      let n = min l.count 16 in
      sym (times-at read_prefix s l.start n 0 no_prefix (omega (arith, b, length-times read_prefix s l.start n)))

  pub listed-tail : (k : ℕ) (next : Cursor) → k ≡ length (members_in s l) - 1 → next ≡ (read_prefix s l.start).next → members_in s (record { count = k; start = next }) ≡ drop 1 (members_in s l)
  unfolding members_in
  listed-tail k next e f = go (min l.count 16) refl
    where
      go : (n : ℕ) → n ≡ min l.count 16 → (times (min k 16) read_prefix s next).value ≡ drop 1 (times n read_prefix s l.start).value
      go zero g =
          let z : min k 16 ≡ 0 = omega (arith, e, listed-size zero g) in
          rw z (sym (times-nothing read_prefix s l.start next))
      go (suc n) g =
          let z : min k 16 ≡ n = omega (arith, e, listed-size (suc n) g) in
          rw (z, f) (sym (times-behind read_prefix s l.start n))

  pub listed-front : (n k : ℕ) → k ≡ min l.count n → members_in s (record { count = k; start = l.start }) ≡ take n (members_in s l)
  unfolding members_in
  listed-front n k e = go (ltb n (min l.count 16)) refl
    where
      go : (t : Bool) → ltb n (min l.count 16) ≡ t → (times (min k 16) read_prefix s l.start).value ≡ take n (times (min l.count 16) read_prefix s l.start).value
      go true f =
          let b : n < min l.count 16 = ltb-true n (min l.count 16) f in
          let z : min k 16 ≡ n = omega arith in
          rw z (sym (times-front read_prefix s l.start (min l.count 16) n (omega arith)))
      go false f =
          let m = min l.count 16 in
          let b : m ≤ n = ltb-false n m f in
          let z : min k 16 ≡ m = omega arith in
          rw z (sym (take_all n (times m read_prefix s l.start).value (omega (arith, length-times read_prefix s l.start m))))

-- one prefix more is looked at, where it stands
pub has_more : (s : List ℕ) (start c : Cursor) (i : ℕ) (x : BasicPrefix) (found same : Bool) → c ≡ (times i read_prefix s start).next → found ≡ has x (times i read_prefix s start).value → same ≡ eq_matter (read_matter s c.at) x.0 → (found || same) ≡ has x (times (i + 1) read_prefix s start).value
unfolding times has read_prefix read_if
has_more s start c i x found same e g h =
    rw (add-one, has-append x (times i read_prefix s start).value ((read_prefix s (times i read_prefix s start).next).value ∷ []), ← e, ← g, ← h, or-false same)
