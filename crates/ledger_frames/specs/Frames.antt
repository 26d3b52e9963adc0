-- What stands in the program's input: the attempts that are there whole, and whether it is broken (docs/RULES.md, "What the program prints").
use Rattle.std.specs.Prelude.{ℕ, zero, suc, ◌+◌, Bool, true, cond, List, [], ◌∷◌, ltb, length, take, drop}
use Rattle.laws.specs.Number.{number}
use Rattle.laws.specs.Room.{room}

pub record Frames : Type 0 where
  pub attempts : List (List ℕ)
  pub broken : Bool

-- an attempt, then those behind it
abbrev pub before : List ℕ → Frames → Frames
before a f = record { attempts = a ∷ f.attempts; broken = f.broken }

-- an input that is too short for what it says
abbrev pub short : Frames
short = record { attempts = []; broken = true }

-- n attempts that are counted, each after a two-byte length; where its two bytes or as many more as they say are not there, the input is
-- too short, and where bytes follow the last one it is too long
unfoldable pub frames_in : ℕ → List ℕ → Frames
frames_in zero s = record { attempts = []; broken = ltb 0 (length s) }
frames_in (suc n) s =
    cond (room s 2 (number s 0 2))
    (before (take (number s 0 2) (drop 2 s)) (frames_in n (drop (2 + number s 0 2) s)))
    short

-- the whole input: a two-byte count of attempts, then these
unfoldable pub frames_of : List ℕ → Frames
frames_of s = cond (room s 0 2) (frames_in (number s 0 2) (drop 2 s)) short
