use mathlib.Core.Path.{sym}
use lib.Seq.{length-take-le}
use Rattle.ledger_table.specs.Tables.{view_ledger}
use Rattle.images.proofs.Laws.{written-within, stored}
use Rattle.images.proofs.answer.written.Goals as goal

pub slice_bounds-digest-end : goal.slice_bounds-digest-end
slice_bounds-digest-end c =
    let z = c.args in
    written-within (view_ledger z.ledger) z.out.now _ _ c.write_image-answer.ensures _ c.unwrap_or-size.ensures

pub slice_bounds-digest-end-2 : goal.slice_bounds-digest-end-2
slice_bounds-digest-end-2 c = sym (length-take-le _ _ (slice_bounds-digest-end c))

pub returns : goal.returns
returns c =
    let z = c.args in
    stored (view_ledger z.ledger) z.out.now _ _ c.write_image-answer.ensures _ c.unwrap_or-size.ensures _ c.digest-digest.ensures
