-- Counts that are raised one after another.
--     each_plus_step    what is raised so far, and what is to be raised of the rest
--     each_plus_end     nothing is left to be raised
use Rattle.std.proofs.Common.{◌≡◌, ℕ, zero, suc, ◌+◌, ◌<◌, ◌≤◌, Bool, false, List, [], ◌∷◌, ◌++◌, length, get_or, set, take, drop, refl, ap, add-one, arith}
use Rattle.tally.specs.Counts.{plus_of, each_plus}

abbrev raised : List ℕ → List Bool → ℕ → List ℕ
raised ns ts i = set ns i (plus_of (get_or ns i 0) (get_or ts i false))

step : (ns : List ℕ) (ts : List Bool) (i : ℕ) → i < length ns → i < length ts → take (suc i) (raised ns ts i) ++ each_plus (drop (suc i) (raised ns ts i)) (drop (suc i) ts) ≡ take i ns ++ each_plus (drop i ns) (drop i ts)
unfolding each_plus
step [] ts i h g = absurd (omega arith)
step (n ∷ ns) [] i h g = absurd (omega arith)
step (n ∷ ns) (t ∷ ts) zero h g = refl
step (n ∷ ns) (t ∷ ts) (suc i) h g = ap (λ l. n ∷ l) (step ns ts i (omega arith) (omega arith))

pub each_plus_step : (ns : List ℕ) (ts : List Bool) (i n : ℕ) → i < length ns → i < length ts → n ≡ plus_of (get_or ns i 0) (get_or ts i false) → take (i + 1) (set ns i n) ++ each_plus (drop (i + 1) (set ns i n)) (drop (i + 1) ts) ≡ take i ns ++ each_plus (drop i ns) (drop i ts)
each_plus_step ns ts i n h g e = rw (e, add-one) (step ns ts i h g)

pub each_plus_end : (ns : List ℕ) (ts : List Bool) (i : ℕ) → length ns ≤ i → take i ns ++ each_plus (drop i ns) ts ≡ ns
unfolding each_plus
each_plus_end [] ts zero h = refl
each_plus_end [] ts (suc i) h = refl
each_plus_end (n ∷ ns) ts zero h = absurd (omega arith)
each_plus_end (n ∷ ns) ts (suc i) h = ap (λ l. n ∷ l) (each_plus_end ns ts i (omega arith))
