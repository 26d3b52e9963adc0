-- The run takes exactly the attempts that its input has.
--     run-frames     for every input, and at least as many turns as it counts attempts: the whole attempts, from position 1, and brokenness
--     run-bytes      65,535 turns are always enough
--     run-printed    what such a run prints is what the program has to print
use Prim.Native.Nat.{ℕ, zero, suc, ◌+◌, ◌-◌, ◌≤◌, ◌<◌}
use mathlib.Core.Path.{◌≡◌, refl, sym}
use Rattle.std.proofs.Common.{Some, None}
use Rattle.std.specs.Option.{unwrap_or}
use mathlib.Core.Bool.{Bool, true, false, cond}
use mathlib.Core.List.{List, [], ◌∷◌}
use native.Mathlib.Nat.{sub_self}
use native.Mathlib.Omega.{arith}
use borrow.Author.Tests.{lt-ltb, le-leb, lt-leb}
use lib.Dec.{ltb}
use lib.ListN.{length, take, drop, length-take, length-drop}
use lib.Seq.{get_or-take}
use Rattle.laws.specs.Number.{number, number_at, Bytes}
use Rattle.laws.specs.Room.{room}
use Rattle.laws.proofs.Number.{number-below}
use Rattle.laws.proofs.Room.{room-true, room-false, true-room, false-room}
use Rattle.ledger_frames.specs.declared.Run.{Run}
use Rattle.ledger_frames.specs.Frames.{frames_in, frames_of}
use Rattle.ledger_frames.specs.Runs.{size_of, start_of, took_of, finish_of, turns_of, run_of, numbered, outcome_from}
use Rattle.ledger_frames.specs.Printed.{Answering, lines_of, after_all, printed_of, taken_lines, after_taken, run_prints}

-- two bytes that are there
pair-taken : (s : List ℕ) → number (take 2 s) 0 2 ≡ number s 0 2
unfolding number
pair-taken s = rw (get_or-take 2 s 0 0 (omega arith), get_or-take 2 s 1 0 (omega arith))

size-whole : (s : List ℕ) → 2 ≤ length s → size_of (take 2 s) ≡ Some (number s 0 2)
unfolding size_of
size-whole s h =
    let g : 0 + 2 ≤ length (take 2 s) = rw length-take (omega arith) in
    rw (true-room (take 2 s) 0 2 g, pair-taken s)

size_none : (s : List ℕ) → length s < 2 → size_of (take 2 s) ≡ None
unfolding size_of
size_none s h =
    let g : length (take 2 s) < 0 + 2 = rw length-take (omega arith) in
    rw (false-room (take 2 s) 0 2 g)

-- a run in which left of count attempts are still to come
abbrev at : ℕ → ℕ → Run
at count left = record { count = count; left = left; broken = false }

abbrev stopped : ℕ → Run
stopped count = record { count = count; left = 0; broken = true }

turns_stopped : (n count : ℕ) (s : List ℕ) → turns_of n (stopped count) s ≡ record { taken = []; broken = true }
unfolding turns_of finish_of
turns_stopped zero count s = refl
turns_stopped (suc n) count s = refl

some : (n : ℕ) → ltb 0 (suc n) ≡ true
some n = lt-ltb 0 (suc n) (omega arith)

-- an attempt that is there whole
took-whole : (count left : ℕ) (s : List ℕ) → 2 + number s 0 2 ≤ length s → took_of (at count (suc left)) (size_of (take 2 s)) (length (take (unwrap_or (size_of (take 2 s)) 0) (drop 2 s))) ≡ at count left
unfolding took_of
took-whole count left s h =
    let z = size-whole s (omega arith) in
    let g : number s 0 2 ≤ length (take (number s 0 2) (drop 2 s)) = rw (length-take, length-drop) (omega arith) in
    let e : suc left - 1 ≡ left = omega arith in
    rw (z, some left, e, le-leb (number s 0 2) (length (take (number s 0 2) (drop 2 s))) g)

-- one that is not: its length is not there, or its body is not
took-short : (count left : ℕ) (s : List ℕ) → length s < 2 + number s 0 2 → took_of (at count (suc left)) (size_of (take 2 s)) (length (take (unwrap_or (size_of (take 2 s)) 0) (drop 2 s))) ≡ stopped count
unfolding took_of
took-short count left s h = go (room s 0 2) refl
  where
    go : (b : Bool) → room s 0 2 ≡ b → took_of (at count (suc left)) (size_of (take 2 s)) (length (take (unwrap_or (size_of (take 2 s)) 0) (drop 2 s))) ≡ stopped count
    go true e =
        let z = size-whole s (room-true s 0 2 e) in
        let g : length (take (number s 0 2) (drop 2 s)) < number s 0 2 = rw (length-take, length-drop) (omega (arith, room-true s 0 2 e)) in
        rw (z, some left, lt-leb (number s 0 2) (length (take (number s 0 2) (drop 2 s))) g)
    go false e = rw (size_none s (room-false s 0 2 e))

-- one byte more is asked for, and that is enough to see that some are there
ends : (s : List ℕ) → ltb 0 (length (take 1 s)) ≡ ltb 0 (length s)
ends [] = refl
ends (x ∷ s) = sym (some (length s))

turns-none : (n count p : ℕ) (s : List ℕ) → turns_of n (at count 0) s ≡ outcome_from p (frames_in 0 s)
unfolding turns_of finish_of frames_in numbered
turns-none zero count p s = rw (ends s)
turns-none (suc n) count p s = rw (ends s)

-- a turn, where the turns behind it are right
turn-frames : (n m count : ℕ) (s : List ℕ) → suc m ≤ count → turns_of n (at count m) (drop (2 + number s 0 2) s) ≡ outcome_from (suc (count - m)) (frames_in m (drop (2 + number s 0 2) s)) → turns_of (suc n) (at count (suc m)) s ≡ outcome_from (suc (count - suc m)) (frames_in (suc m) s)
unfolding turns_of frames_in numbered
turn-frames n m count s g rest = go (room s 2 (number s 0 2)) refl
  where
    go : (b : Bool) → room s 2 (number s 0 2) ≡ b → turns_of (suc n) (at count (suc m)) s ≡ outcome_from (suc (count - suc m)) (frames_in (suc m) s)
    go true e =
        let r = room-true s 2 (number s 0 2) e in
        let z = size-whole s (omega arith) in
        let p : count - m ≡ suc (count - suc m) = omega arith in
        rw (some m, took-whole count m s r, z, e, rest, p)
    go false e = rw (some m, took-short count m s (room-false s 2 (number s 0 2) e), e, turns_stopped n count _)

-- the turns, with m of count attempts still to come
turns-frames : (n m count : ℕ) (s : List ℕ) → m ≤ n → m ≤ count → turns_of n (at count m) s ≡ outcome_from (suc (count - m)) (frames_in m s)
turns-frames n zero count s h g = turns-none n count (suc (count - 0)) s
turns-frames zero (suc m) count s h g = absurd (omega arith)
turns-frames (suc n) (suc m) count s h g =
    turn-frames n m count s g (turns-frames n m count (drop (2 + number s 0 2) s) (omega arith) (omega arith))

-- For every input: a run of at least as many turns as the input counts takes its whole attempts, in order, from position 1, and says
-- whether it is broken.
pub run-frames : (n : ℕ) (s : List ℕ) → number_at s 0 2 ≤ n → run_of n s ≡ outcome_from 1 (frames_of s)
unfolding run_of frames_of start_of number_at numbered
run-frames n s h = go (room s 0 2) refl
  where
    go : (b : Bool) → room s 0 2 ≡ b → run_of n s ≡ outcome_from 1 (frames_of s)
    go true e =
        let f = turns-frames n (number s 0 2) (number s 0 2) (drop 2 s) (rw e at h) (omega arith) in
        rw (size-whole s (room-true s 0 2 e), e) (rw (sub_self (number s 0 2)) at f)
    go false e = rw (size_none s (room-false s 0 2 e), e) (turns_stopped n 0 (drop 2 s))

-- A count of two bytes is at most 65,535.
pub run-bytes : (s : List ℕ) → Bytes s → run_of 65535 s ≡ outcome_from 1 (frames_of s)
unfolding number_at
run-bytes s b = run-frames 65535 s (few (room s 0 2))
  where
    few : (t : Bool) → cond t (number s 0 2) 0 ≤ 65535
    few true = omega (arith, number-below s 0 2 b)
    few false = omega arith

module _ {L : Type 0} (k : Answering L) where
  lines-numbered : (p : ℕ) (l : L) (rest : List (List ℕ)) → taken_lines k l (numbered p rest) ≡ lines_of k p l rest
  unfolding taken_lines lines_of numbered
  lines-numbered p l [] = refl
  lines-numbered p l (a ∷ rest) = rw (lines-numbered (suc p) (k.next l a) rest)

  after-numbered : (p : ℕ) (l : L) (rest : List (List ℕ)) → after_taken k l (numbered p rest) ≡ after_all k l rest
  unfolding after_taken after_all numbered
  after-numbered p l [] = refl
  after-numbered p l (a ∷ rest) = after-numbered (suc p) (k.next l a) rest

  -- What the run prints is what the program has to print.
  pub run-printed : (n : ℕ) (l : L) (s : List ℕ) → number_at s 0 2 ≤ n → run_prints k l (run_of n s) ≡ printed_of k l s
  unfolding run_prints printed_of
  run-printed n l s h = rw (run-frames n s h, lines-numbered, after-numbered)
