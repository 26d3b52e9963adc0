use Rattle.ledger_image_rows_check.specs.RowTests.{rows_stand}
use Rattle.ledger_image_rows_check.proofs.rows.check_rows.Goals as goal

pub returns-then-ends_there : goal.returns-then-ends_there
unfolding rows_stand
returns-then-ends_there c = rw (← c.ends_there.ensures, c.if-ends_there.true) c.rows_pass.ensures

pub returns-else-ends_there : goal.returns-else-ends_there
unfolding rows_stand
returns-else-ends_there c = rw (← c.ends_there.ensures, c.if-ends_there.false)
