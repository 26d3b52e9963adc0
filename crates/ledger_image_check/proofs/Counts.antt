-- The counts of an image's sections.
--     count-within       a count is at most its limit
--     count-ok           a count that was read: two bytes, behind a cursor that had not stopped
--     times-length       n elements are n
--     section-counted    a section that was read has a count that was read
use Prim.Native.Nat.{ℕ, zero, suc, ◌+◌, ◌≤◌}
use mathlib.Core.Path.{◌≡◌, refl, ap, sym, ◌∙◌}
use mathlib.Core.Bool.{Bool, true, false, cond}
use mathlib.Core.List.{List}
use native.Mathlib.Numerals.{add-one}
use native.Mathlib.Omega.{arith}
use borrow.Author.Tests.{leb-true}
use lib.Dec.{leb}
use lib.ListN.{length, length-append}
use Rattle.laws.specs.Number.{number_at}
use Rattle.codec_cursor.specs.declared.Cursor.{Cursor}
use Rattle.codec_cursor.specs.Readers.{Reader, placed, advanced, need, times}
use Rattle.codec_cursor.specs.declared.Read.{Read}
use Rattle.codec_laws.proofs.Stands.{passed, went}
use Rattle.ledger_image.specs.Images.{wide_count, wide_section}

pub record Counted (limit : ℕ) (s : List ℕ) (c : Cursor) : Type 0 where
  pub before : c.ok ≡ true
  pub next : (wide_count limit s c).next ≡ placed (c.at + 2)

pub count-ok : (limit : ℕ) (s : List ℕ) (c : Cursor) → (wide_count limit s c).next.ok ≡ true → Counted limit s c
unfolding wide_count
count-ok limit s c h =
    let p = passed (advanced s c 2) (leb (number_at s c.at 2) limit) h in
    let w = went s c 2 p.ok in
    record { before = w.ok; next = p.stays ∙ w.goes }

none-counted : (limit : ℕ) (s : List ℕ) (c : Cursor) → (wide_count limit s c).next.ok ≡ false → (wide_count limit s c).value ≡ 0
unfolding wide_count
none-counted limit s c h = rw h

pub count-within : (limit : ℕ) (s : List ℕ) (c : Cursor) (r : Read ℕ) → r ≡ wide_count limit s c → r.value ≤ limit
unfolding wide_count
count-within limit s c r e = rw e (go (need (advanced s c 2) (leb (number_at s c.at 2) limit)).ok refl)
  where
    go : (t : Bool) → (need (advanced s c 2) (leb (number_at s c.at 2) limit)).ok ≡ t → cond t (number_at s c.at 2) 0 ≤ limit
    go true h = leb-true (number_at s c.at 2) limit (passed (advanced s c 2) (leb (number_at s c.at 2) limit) h).test
    go false h = omega arith

module _ {A : Type 0} (p : Reader A) (s : List ℕ) where
  pub times-length : (c : Cursor) (n : ℕ) → length (times n p s c).value ≡ n
  unfolding times
  times-length c zero = refl
  times-length c (suc n) = rw (length-append, times-length c n) (add-one n)

  zero-times : (d : Cursor) (n : ℕ) → n ≡ 0 → (times n p s d).next ≡ d
  unfolding times
  zero-times d n e = rw e

  -- where the count was not read there are no elements, and the cursor behind them is the one that has stopped
  pub section-counted : (limit : ℕ) (c : Cursor) → (wide_section limit p s c).next.ok ≡ true → (wide_count limit s c).next.ok ≡ true
  unfolding wide_section
  section-counted limit c h = go (wide_count limit s c).next.ok refl h
    where
      go : (t : Bool) → (wide_count limit s c).next.ok ≡ t → (times (wide_count limit s c).value p s (wide_count limit s c).next).next.ok ≡ true → t ≡ true
      go true e h = refl
      go false e h = sym e ∙ ap (λ (d : Cursor). d.ok) (sym (zero-times (wide_count limit s c).next (wide_count limit s c).value (none-counted limit s c e))) ∙ h
