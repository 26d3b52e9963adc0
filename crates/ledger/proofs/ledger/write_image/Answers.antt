use Rattle.ledger_table.specs.Tables.{view_ledger}
use Rattle.ledger.proofs.ledger.write_image.Goals as goal

pub returns : goal.returns
unfolding view_ledger
returns c = c.write_image.ensures
