use mathlib.Core.Path.{◌∙◌}
use native.Mathlib.Omega.{arith}
use Rattle.cesr_sn.specs.Numbers.{value}
use Rattle.cesr_sn.proofs.Order.{less_value}
use Rattle.ledger_image_rows_check.proofs.MarkLaws.{row-tested-near}
use Rattle.ledger_image_rows_check.proofs.rows.row_passes.Goals as goal

pub returns : goal.returns
unfolding value
returns c =
    let p = c.requires in
    let low = c.lt-low.ensures ∙ less_value c.read-row.result.value.sn (record { hi = 0; lo = 2 }) (omega arith) (omega arith) in
    row-tested-near _ _ _ _ _ c.read-row.result _ _ _ p.0 p.1 c.read-row.ensures c.contains-home.ensures low c.has_key.ensures
