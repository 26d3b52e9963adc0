use Rattle.std.proofs.lemmas.Result.{err_from_is_err_and}
use Rattle.ledger_image_check.proofs.CheckLaws.{answer-broken, answer-held, answer-rows, answer-refused}
use Rattle.ledger_image_check.proofs.image.check_image.Goals as goal
use Rattle.ledger_image_check.proofs.image.check_image.Goals.{else-section-via-then-section+else-check_rows, else-section-via-else-section}

pub returns-in_err-registries : goal.returns-in_err-registries
returns-in_err-registries c =
    let p = err_from_is_err_and c.from_residual.result c.from_residual.ensures.1 in
    rw p.1 (answer-broken _ c.in_err-registries.ensures)

pub returns-then-check_rows : goal.returns-then-check_rows
returns-then-check_rows c =
    answer-held _ _ _ c.in_ok-registries.ensures c.read_count-section.result c.read_count-section.ensures c.if-section.true c.if-check_rows.ensures _ c.size.ensures.value

pub returns : goal.returns
returns c =
    let r = c.read_count-section in
    elim c.else-section.branch [
      | else-section-via-then-section+else-check_rows w ↦ answer-rows _ _ _ c.in_ok-registries.ensures r.result r.ensures w.if-check_rows.ensures
      | else-section-via-else-section w ↦ answer-refused _ _ _ c.in_ok-registries.ensures r.result r.ensures w.if-section.false
    ]
