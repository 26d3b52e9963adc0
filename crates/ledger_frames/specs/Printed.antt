-- What the program prints, for any ledger that answers to attempts (docs/RULES.md, "What the program prints").
use Rattle.std.specs.Prelude.{ℕ, suc, cond, List, [], ◌∷◌, ◌++◌}
use Rattle.ledger_text.specs.Lines.{line_bytes, last_line, broken_line}
use Rattle.ledger_frames.specs.Frames.{frames_of}
use Rattle.ledger_frames.specs.Runs.{Taken, Outcome}

-- a ledger's answer to an attempt, the ledger after it, and how much a ledger holds
pub record Answering (L : Type 0) : Type 0 where
  pub number : L → List ℕ → ℕ
  pub letter : L → List ℕ → ℕ
  pub next : L → List ℕ → L
  pub registries : L → ℕ
  pub credentials : L → ℕ

module _ {L : Type 0} (k : Answering L) where
  -- a line for each attempt, from a position on; each is answered by the ledger that the one before it left
  unfoldable pub lines_of : ℕ → L → List (List ℕ) → List ℕ
  lines_of p l [] = []
  lines_of p l (a ∷ rest) = line_bytes p (k.number l a) (k.letter l a) ++ lines_of (suc p) (k.next l a) rest

  -- the ledger after all of them
  unfoldable pub after_all : L → List (List ℕ) → L
  after_all l [] = l
  after_all l (a ∷ rest) = after_all (k.next l a) rest

  abbrev pub last_of : L → List ℕ
  last_of l = last_line (k.registries l) (k.credentials l)

  -- the whole output for an input s, from a ledger l: the lines of the attempts that are there whole, from position 1, then the last line
  unfoldable pub printed_of : L → List ℕ → List ℕ
  printed_of l s =
      let f = frames_of s in
      lines_of 1 l f.attempts ++ cond f.broken broken_line (last_of (after_all l f.attempts))

  -- the same for attempts that a run took, each with the position that the run gave it
  unfoldable pub taken_lines : L → List Taken → List ℕ
  taken_lines l [] = []
  taken_lines l (t ∷ ts) =
      line_bytes t.position (k.number l t.attempt) (k.letter l t.attempt) ++ taken_lines (k.next l t.attempt) ts

  unfoldable pub after_taken : L → List Taken → L
  after_taken l [] = l
  after_taken l (t ∷ ts) = after_taken (k.next l t.attempt) ts

  unfoldable pub run_prints : L → Outcome → List ℕ
  run_prints l o = taken_lines l o.taken ++ cond o.broken broken_line (last_of (after_taken l o.taken))
