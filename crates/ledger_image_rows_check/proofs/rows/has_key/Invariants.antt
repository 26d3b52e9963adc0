use mathlib.Core.Path.{◌≡◌}
use Rattle.ledger_image_ids.specs.Pairs.{key_of}
use Rattle.ledger_image_ids.specs.Tables.{has}
use Rattle.ledger_image_ids.specs.Ledgers.{eq_pair}
use Rattle.ledger_image_rows_check.specs.RowTests.{keys_from}
use Rattle.ledger_image_rows_check.proofs.rows.has_key.Given as goal

abbrev pub invariant-loop-i : goal.invariant-loop-i
invariant-loop-i l = l.found ≡ has eq_pair (key_of l.w) (keys_from l.s l.at l.i)
