use Rattle.ledger_check.specs.RowsHeld.{rows_held}
use Rattle.ledger_check.proofs.HeldRows.{all-held}
use Rattle.ledger_check.proofs.check.rows_held.Goals as goal

pub returns : goal.returns
unfolding rows_held
returns c = rw (c.all_held.ensures, c.in_use.ensures, c.in_use-2.ensures) (all-held _ _)
