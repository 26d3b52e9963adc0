use mathlib.Core.Path.{◌≡◌}
use Rattle.ledger_image_ids.specs.IdLists.{view_ids}
use Rattle.ledger_image_rows_check.specs.RowTests.{rows_pass}
use Rattle.ledger_image_rows_check.proofs.MarkLaws.{Told}
use Rattle.ledger_image_rows_check.proofs.rows.rows_pass.Given as goal

abbrev pub invariant-loop-i : goal.invariant-loop-i
invariant-loop-i l = record { told : Told l.s l.at l.i l.marks; ok : l.ok ≡ rows_pass l.s l.at (view_ids l.ids) l.i }
