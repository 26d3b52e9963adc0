-- What was printed, and what is to be printed of the rest of the input, is what the program prints of all of it.
use Rattle.std.proofs.Common.{◌≡◌, IfSome, length}
use Rattle.ledger_table.specs.Tables.{view_ledger}
use Rattle.attempts.specs.Answering.{answering, output_of}
use Rattle.attempts.proofs.Turns.{Going}
use Rattle.attempts.proofs.answer_all.Given as goal

abbrev pub invariant-loop-buffer : goal.invariant-loop-buffer
invariant-loop-buffer g l =
    record { room : length l.buffer ≡ 65536; going : IfSome (g.R.Read.remaining l.fn.reader) (λ s. Going answering (g.R.Read.remaining l.reader) (g.W.Write.contents l.fn.writer) (g.W.Write.contents l.writer) l.run (view_ledger l.ledger) (output_of s)) }

abbrev pub decreases-loop-buffer : goal.decreases-loop-buffer
decreases-loop-buffer g l = l.run.left
