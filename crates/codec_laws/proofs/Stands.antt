-- Bytes that stand at a place of other bytes, and what a cursor that has not stopped tells.
use Prim.Native.Nat.{ℕ, ◌+◌, ◌<◌, ◌≤◌, min}
use mathlib.Core.Path.{◌≡◌, refl, ap, sym, ◌∙◌}
use mathlib.Core.List.{List, ◌++◌}
use mathlib.Core.Bool.{Bool, true, false, cond, ◌&&◌, false≢true}
use native.Mathlib.Omega.{arith}
use lib.ListN.{length, take, drop, length-append, length-take, length-drop, take-append-drop}
use lib.Seq.{take-length, take-add, drop-drop, take_at, drop_at, length-take-le}
use Rattle.laws.specs.Room.{room}
use Rattle.laws.proofs.Room.{room-true, true-room}
use Rattle.laws.proofs.Tests.{and_left, and_right}
use Rattle.codec.specs.declared.Cursor.{Cursor}
use Rattle.codec.specs.Readers.{placed, stopped, advanced, need}

-- bs are the bytes of s from at on
abbrev pub Stands : List ℕ → ℕ → List ℕ → Type 0
Stands s at bs = take (length bs) (drop at s) ≡ bs

-- one behind the other
module _ (s : List ℕ) (at : ℕ) (a b : List ℕ) where
  cut : take (length (a ++ b)) (drop at s) ≡ take (length a) (drop at s) ++ take (length b) (drop (at + length a) s)
  cut = rw (length-append, take-add, drop-drop)

  pub stands-join : Stands s at a → Stands s (at + length a) b → Stands s at (a ++ b)
  stands-join p q = cut ∙ rw (p, q)

  first_part : Stands s at (a ++ b) → length (take (length a) (drop at s)) ≡ length a
  first_part p =
      let e : min (length (a ++ b)) (length (drop at s)) ≡ length (a ++ b) = sym (length-take (length (a ++ b)) (drop at s)) ∙ ap length p in
      length-take-le (length a) (drop at s) (omega (arith, e, length-append a b))

  pub stands-first : Stands s at (a ++ b) → Stands s at a
  stands-first p =
      sym (take_at (take (length a) (drop at s)) (take (length b) (drop (at + length a) s)) (length a) (first_part p))
      ∙ ap (take (length a)) (sym cut ∙ p)
      ∙ take_at a b (length a) refl

  pub stands-rest : Stands s at (a ++ b) → Stands s (at + length a) b
  stands-rest p =
      sym (drop_at (take (length a) (drop at s)) (take (length b) (drop (at + length a) s)) (length a) (first_part p))
      ∙ ap (drop (length a)) (sym cut ∙ p)
      ∙ drop_at a b (length a) refl

-- bytes that stand there are there
pub stands-fits : (s : List ℕ) (at : ℕ) (bs : List ℕ) → 0 < length bs → Stands s at bs → at + length bs ≤ length s
stands-fits s at bs h p =
    let e : min (length bs) (length (drop at s)) ≡ length bs = sym (length-take (length bs) (drop at s)) ∙ ap length p in
    omega (arith, e, length-drop at s)

-- what stands in the middle
pub stands-split : (s : List ℕ) (at : ℕ) (bs : List ℕ) → Stands s at bs → s ≡ take at s ++ (bs ++ drop (at + length bs) s)
stands-split s at bs p =
    sym (take-append-drop at s)
    ∙ ap (λ (l : List ℕ). take at s ++ l)
    (sym (take-append-drop (length bs) (drop at s)) ∙ rw (p, drop-drop))

pub stands-place : (s : List ℕ) (at : ℕ) (bs : List ℕ) → 0 < length bs → Stands s at bs → length (take at s) ≡ at
stands-place s at bs h p = length-take-le at s (omega (arith, stands-fits s at bs h p))

-- bytes that are the whole
pub stands-whole : (s bs : List ℕ) → Stands s 0 bs → length bs ≡ length s → s ≡ bs
stands-whole s bs p e = sym (take-length s) ∙ ap (λ (n : ℕ). take n s) (sym e) ∙ p

pub whole-stands : (s : List ℕ) → Stands s 0 s
whole-stands s = take-length s

-- a cursor that has not stopped past n bytes
pub record Went (s : List ℕ) (c : Cursor) (n : ℕ) : Type 0 where
  pub ok : c.ok ≡ true
  pub fits : c.at + n ≤ length s
  pub goes : advanced s c n ≡ placed (c.at + n)

pub went : (s : List ℕ) (c : Cursor) (n : ℕ) → (advanced s c n).ok ≡ true → Went s c n
unfolding advanced
went s c n h = go (c.ok && room s c.at n) refl h
  where
    go : (t : Bool) → (c.ok && room s c.at n) ≡ t → (cond t (placed (c.at + n)) stopped).ok ≡ true → Went s c n
    go true e h = record { ok = and_left c.ok (room s c.at n) e; fits = room-true s c.at n (and_right c.ok (room s c.at n) e); goes = rw e }
    go false e h = absurd (false≢true h)

pub goes_on : (s : List ℕ) (c : Cursor) (n : ℕ) → c.ok ≡ true → c.at + n ≤ length s → advanced s c n ≡ placed (c.at + n)
unfolding advanced
goes_on s c n o h = rw (o, true-room s c.at n h)

-- a test that was passed
pub record Passed (c : Cursor) (t : Bool) : Type 0 where
  pub test : t ≡ true
  pub ok : c.ok ≡ true
  pub stays : need c t ≡ c

pub passed : (c : Cursor) (t : Bool) → (need c t).ok ≡ true → Passed c t
unfolding need
passed c true h = record { test = refl; ok = h; stays = refl }
passed c false h = absurd (false≢true h)

pub stays : (c : Cursor) (t : Bool) → t ≡ true → need c t ≡ c
unfolding need
stays c t e = rw e
