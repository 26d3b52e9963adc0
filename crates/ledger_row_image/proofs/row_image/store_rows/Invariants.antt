-- How far the loop has come: the first `i` rows are stored, and the cursor is behind their bytes.
use Rattle.std.proofs.Common.{◌≡◌}
use Rattle.ledger_sections.proofs.RowTurns.{read, cursor}
use Rattle.ledger_row_image.proofs.row_image.store_rows.Given as goal

abbrev pub invariant-loop-i : goal.invariant-loop-i
invariant-loop-i l = record { behind : l.c ≡ cursor l.image l.at l.fn.rows l.i; stored : l.rows ≡ read l.image l.at l.fn.rows l.i }
