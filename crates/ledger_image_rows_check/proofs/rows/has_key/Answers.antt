use mathlib.Core.Path.{refl}
use Rattle.ledger_image_ids.specs.Tables.{has}
use Rattle.ledger_image_rows_check.specs.RowTests.{keys_from}
use Rattle.ledger_image_rows_check.proofs.RowChecks.{key-next}
use Rattle.ledger_image_rows_check.proofs.rows.has_key.Goals as goal

pub loop-i-init : goal.loop-i-init
unfolding has keys_from
loop-i-init c = refl

pub loop-i-preserved : goal.loop-i-preserved
loop-i-preserved c = key-next _ _ _ _ _ _ c.loop-i.invariant c.same_key-found.ensures
