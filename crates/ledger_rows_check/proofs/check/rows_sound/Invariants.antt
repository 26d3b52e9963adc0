use Rattle.std.proofs.Common.{◌≡◌}
use Rattle.ledger_row_rules.proofs.Marked.{marks_of}
use Rattle.ledger_rows_check.proofs.Sound.{Kept}
use Rattle.ledger_rows_check.proofs.check.rows_sound.Given as goal

-- the rows that were passed are sound, and their credentials are marked
abbrev pub invariant-loop-i : goal.invariant-loop-i
invariant-loop-i l = record { marked : l.marks ≡ marks_of l.rows l.i; kept : Kept l.rows l.i }
