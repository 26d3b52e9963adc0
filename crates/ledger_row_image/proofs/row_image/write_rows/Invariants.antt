-- How far the loop has come: the first `i` rows are written behind the count.
use Rattle.std.proofs.Common.{◌≡◌}
use Rattle.ledger_sections.proofs.RowTurns.{wrote}
use Rattle.ledger_row_image.proofs.row_image.write_rows.Given as goal

abbrev pub invariant-loop-i : goal.invariant-loop-i
invariant-loop-i l = l.out ≡ wrote l.fn.out l.rows l.count l.i
