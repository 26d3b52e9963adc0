use Rattle.std.proofs.lemmas.Result.{err_from_is_err_and}
use Rattle.ledger_read.proofs.ImageStored.{read-stopped, read-done}
use Rattle.ledger_read.proofs.read.read_image.Goals as goal

pub returns-in_err-plan : goal.returns-in_err-plan
returns-in_err-plan c =
    let p = err_from_is_err_and c.from_residual.result c.from_residual.ensures.1 in
    rw (p.1, p.2) (read-stopped _ _ _ _ c.planned.ensures _ c.in_err-plan.was)

pub returns : goal.returns
returns c = rw c.store_rows.ensures (read-done _ _ _ _ c.planned.ensures _ c.in_ok-plan.was _ c.store_registries.ensures)
