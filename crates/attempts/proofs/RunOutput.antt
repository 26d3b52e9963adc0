-- What the run prints is what the program has to print.
--     run-output     the lines of the attempts that a run takes from its input, each answered by the ledger's step from an empty ledger, and the last line
-- The run's pieces are what the program calls: `start_of`, `size_of`, `took_of`, `finish_of` (ledger_frames), and here `line_of` and `next_of`.
use Prim.Native.Nat.{ℕ, ◌≤◌}
use mathlib.Core.Path.{◌≡◌}
use mathlib.Core.List.{List, []}
use Rattle.laws.specs.Number.{number_at}
use Rattle.ledger_image.specs.Images.{ledger_of}
use Rattle.ledger_frames.specs.Printed.{run_prints}
use Rattle.ledger_frames.specs.Runs.{run_of}
use Rattle.ledger_frames.proofs.RunLaws.{run-printed}
use Rattle.attempts.specs.Answering.{answering, output_of}

pub run-output : (n : ℕ) (s : List ℕ) → number_at s 0 2 ≤ n → run_prints answering (ledger_of [] []) (run_of n s) ≡ output_of s
run-output n s h = run-printed answering n (ledger_of [] []) s h
