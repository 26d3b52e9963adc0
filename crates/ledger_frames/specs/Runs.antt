-- The run of the program over its input, piece by piece (docs/RULES.md, "What the program prints"): what each piece comes to, and the
-- whole run, as the program reads it. proofs/ has the law that it takes exactly the attempts of `frames_of`.
use Rattle.std.specs.Prelude.{ℕ, zero, suc, ◌+◌, ◌-◌, Bool, true, cond, ◌&&◌, ◌||◌, List, [], ◌∷◌, ltb, leb, length, take, drop, Option, Some, None, is_none, unwrap_or}
use Rattle.laws.specs.Number.{number}
use Rattle.laws.specs.Room.{room}
use Rattle.ledger_frames.specs.declared.Run.{Run}
use Rattle.ledger_frames.specs.Frames.{Frames}

-- the two-byte number of what was read for it, or none where that is too short
unfoldable pub size_of : List ℕ → Option ℕ
size_of s = cond (room s 0 2) (Some (number s 0 2)) None

unfoldable pub start_of : List ℕ → Run
start_of s =
    record { count = unwrap_or (size_of s) 0; left = unwrap_or (size_of s) 0; broken = is_none (size_of s) }

-- an attempt that was counted and is there whole is taken; after any other none is to come
unfoldable pub took_of : Run → Option ℕ → ℕ → Run
took_of r (Some n) got =
    cond (ltb 0 r.left && leb n got)
    (record { count = r.count; left = r.left - 1; broken = r.broken })
    (record { count = r.count; left = 0; broken = true })
took_of r None got = record { count = r.count; left = 0; broken = true }

-- broken too where attempts are still to come, or where bytes follow
unfoldable pub finish_of : Run → ℕ → Run
finish_of r more = record { count = r.count; left = r.left; broken = (r.broken || ltb 0 r.left) || ltb 0 more }

-- an attempt that was taken, and its position
pub record Taken : Type 0 where
  pub position : ℕ
  pub attempt : List ℕ

pub record Outcome : Type 0 where
  pub taken : List Taken
  pub broken : Bool

-- an attempt is taken where the run after it is not broken
abbrev pub taking : Run → List ℕ → Outcome → Outcome
taking r a o = cond r.broken o (record { taken = record { position = r.count - r.left; attempt = a } ∷ o.taken; broken = o.broken })

-- the end: one byte more is asked for
abbrev pub ending : Run → List ℕ → Outcome
ending r s = record { taken = []; broken = (finish_of r (length (take 1 s))).broken }

-- at most so many turns over the rest s of the input; in each two bytes are read, then as many as they say
unfoldable pub turns_of : ℕ → Run → List ℕ → Outcome
turns_of zero r s = ending r s
turns_of (suc m) r s =
    let z = size_of (take 2 s) in
    let n = unwrap_or z 0 in
    let a = take n (drop 2 s) in
    let q = took_of r z (length a) in
    cond (ltb 0 r.left) (taking q a (turns_of m q (drop (2 + n) s))) (ending r s)

-- the whole input: two bytes for the count, then the turns
unfoldable pub run_of : ℕ → List ℕ → Outcome
run_of n s = turns_of n (start_of (take 2 s)) (drop 2 s)

-- attempts with their positions, from p on
unfoldable pub numbered : ℕ → List (List ℕ) → List Taken
numbered p [] = []
numbered p (a ∷ l) = record { position = p; attempt = a } ∷ numbered (suc p) l

-- what a run has to come to: the whole attempts, from position 1, and whether the input is broken
abbrev pub outcome_from : ℕ → Frames → Outcome
outcome_from p f = record { taken = numbered p f.attempts; broken = f.broken }
