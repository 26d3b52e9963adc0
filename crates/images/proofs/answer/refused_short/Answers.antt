use Rattle.ledger_table.specs.Tables.{view_ledger}
use Rattle.images.proofs.Laws.{short}
use Rattle.images.proofs.answer.refused_short.Goals as goal

pub returns : goal.returns
returns c =
    let z = c.args in
    short (view_ledger z.ledger) z.out.now _ c.write_image-answer.result c.write_image-answer.ensures _ _ _ c.digest-before.ensures c.digest.ensures (c.is_short_buffer.ensures _)
