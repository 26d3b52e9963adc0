use mathlib.Core.Path.{refl}
use Rattle.ledger_image.specs.Ledgers.{lent_ledger}
use Rattle.ledger_image.specs.Images.{ledger_of}
use Rattle.ledger_table.specs.Tables.{view_ledger}
use Rattle.ledger_table.proofs.Ledger.empty.Goals as goal

pub returns : goal.returns
unfolding view_ledger lent_ledger ledger_of
returns c = refl
