-- Laws of `room` and `put`.
--     room-true, true-room   the test and the bound
--     put-sets               where there is room, a run is stored
--     put-none               where there is none, nothing is
--     put-append             two runs, one behind the other, are one
--     sets-append, sets-snoc the same for a run with no test
--     stored, refused        what a writer that tests for room leaves and answers
--     stored_same            elements stored where they stand change nothing
use Prim.Native.Nat.{ℕ, suc, ◌+◌, ◌<◌, ◌≤◌}
use mathlib.Core.Path.{◌≡◌, refl, ap, sym, ◌∙◌}
use mathlib.Core.List.{List, [], ◌∷◌, ◌++◌, append_assoc}
use mathlib.Core.Bool.{Bool, true, false, cond}
use native.Mathlib.Nat.{add-zero, add-suc, suc-add}
use native.Mathlib.Omega.{arith}
use borrow.Author.Tests.{le-leb, lt-leb, leb-true, leb-false}
use lib.Dec.{leb}
use lib.ListN.{length, set, take, drop, length-append, length-drop, take-append-drop}
use lib.Seq.{sets, sets-eq, set_comm, length-sets, length-take-le, drop-drop}
use Rattle.laws.specs.Room.{room, put}

module _ {A : Type 0} where
  pub room-true : (l : List A) (at n : ℕ) → room l at n ≡ true → at + n ≤ length l
  unfolding room
  room-true l at n h = leb-true (at + n) (length l) h

  pub true-room : (l : List A) (at n : ℕ) → at + n ≤ length l → room l at n ≡ true
  unfolding room
  true-room l at n h = le-leb (at + n) (length l) h

  pub room-false : (l : List A) (at n : ℕ) → room l at n ≡ false → length l < at + n
  unfolding room
  room-false l at n h = leb-false (at + n) (length l) h

  pub false-room : (l : List A) (at n : ℕ) → length l < at + n → room l at n ≡ false
  unfolding room
  false-room l at n h = lt-leb (at + n) (length l) h

  -- a store behind a run of stores may go first
  pub sets-snoc : (l : List A) (at : ℕ) (vs : List A) (b : A) → sets l at (vs ++ (b ∷ [])) ≡ sets (set l (at + length vs) b) at vs
  sets-snoc l at [] b = rw add-zero
  sets-snoc l at (v ∷ vs) b =
      sets-snoc (set l at v) (suc at) vs b
      ∙ ap (λ (m : List A). sets m (suc at) vs)
      (ap (λ (k : ℕ). set (set l at v) k b) (suc-add at (length vs) ∙ sym (add-suc at (length vs)))
      ∙ set_comm l at (at + suc (length vs)) v b (λ e. omega (arith, add-suc at (length vs))))

  -- two runs of stores, one behind the other, are one
  pub sets-append : (l : List A) (at : ℕ) (vs ws : List A) → sets l at (vs ++ ws) ≡ sets (sets l at vs) (at + length vs) ws
  sets-append l at [] ws = rw add-zero
  sets-append l at (v ∷ vs) ws =
      sets-append (set l at v) (suc at) vs ws
      ∙ ap (λ (k : ℕ). sets (sets (set l at v) (suc at) vs) k ws) (suc-add at (length vs) ∙ sym (add-suc at (length vs)))

  pub put-sets : (l : List A) (at n : ℕ) (vs : List A) → length vs ≡ n → at + n ≤ length l → put l at vs ≡ sets l at vs
  unfolding put
  put-sets l at n vs e h = rw (e, true-room l at n h)

  pub put-none : (l : List A) (at n : ℕ) (vs : List A) → length vs ≡ n → length l < at + n → put l at vs ≡ l
  unfolding put
  put-none l at n vs e h = rw (e, false-room l at n h)

  pub length-put : (l : List A) (at : ℕ) (vs : List A) → length (put l at vs) ≡ length l
  unfolding put
  length-put l at vs = go (room l at (length vs))
    where
      go : (b : Bool) → length (cond b (sets l at vs) l) ≡ length l
      go true = length-sets l at vs
      go false = refl

  pub stored : (l : List A) (at n : ℕ) (vs m : List A) → length vs ≡ n → leb (at + n) (length l) ≡ true → m ≡ sets l at vs → (true ≡ room l at n) × (m ≡ put l at vs)
  unfolding room
  stored l at n vs m e h f = (sym h, f ∙ sym (put-sets l at n vs e (leb-true (at + n) (length l) h)))

  pub refused : (l : List A) (at n : ℕ) (vs : List A) → length vs ≡ n → leb (at + n) (length l) ≡ false → (false ≡ room l at n) × (l ≡ put l at vs)
  unfolding room
  refused l at n vs e h = (sym h, sym (put-none l at n vs e (leb-false (at + n) (length l) h)))

  -- where both runs find room
  pub put-append : (l : List A) (at n m : ℕ) (vs ws : List A) → length vs ≡ n → length ws ≡ m → at + n + m ≤ length l → put (put l at vs) (at + n) ws ≡ put l at (vs ++ ws)
  put-append l at n m vs ws e f h =
      let g : length (vs ++ ws) ≡ n + m = rw (length-append, e, f) in
      let p : put l at vs ≡ sets l at vs = put-sets l at n vs e (omega arith) in
      let q : put (sets l at vs) (at + n) ws ≡ sets (sets l at vs) (at + n) ws = put-sets (sets l at vs) (at + n) m ws f (rw length-sets h) in
      rw (p, q, put-sets l at (n + m) (vs ++ ws) g (omega arith), sets-append, e)

  -- the elements that stand there, stored again
  pub stored_same : (l : List A) (at n : ℕ) (vs : List A) → at + n ≤ length l → vs ≡ take n (drop at l) → sets l at vs ≡ l
  stored_same l at n vs h e =
      let g : length vs ≡ n = rw (e, length-take-le n (drop at l) (rw length-drop (omega arith))) in
      sets-eq vs l at (rw g h)
      ∙ rw (g, e, append_assoc, ← drop-drop n at l, take-append-drop n (drop at l), take-append-drop at l)
