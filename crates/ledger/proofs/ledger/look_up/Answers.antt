use Rattle.ledger_table.specs.Tables.{view_ledger}
use Rattle.ledger.proofs.ledger.look_up.Goals as goal

pub returns : goal.returns
unfolding view_ledger
returns c = c.look_up.ensures
