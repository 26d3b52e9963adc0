use Rattle.std.proofs.lemmas.Result.{err_from_is_err_and}
use Rattle.ledger_written.proofs.ImageWrites.{refused-as, rest-is-there, written-as}
use Rattle.ledger_write.proofs.write.write_image.Goals as goal

pub returns-in_err-size : goal.returns-in_err-size
returns-in_err-size c =
    let p = err_from_is_err_and c.from_residual.result c.from_residual.ensures.1 in
    rw (p.1, p.2) (refused-as _ _ _ _ _ _ _ _ c.sound-ok.ensures c.registries_size-first.ensures c.writing.ensures _ c.in_err-size.was)

pub slice_bounds-write_rows-count : goal.slice_bounds-write_rows-count
slice_bounds-write_rows-count c =
    rest-is-there _ _ _ _ _ _ _ _ c.sound-ok.ensures c.registries_size-first.ensures c.writing.ensures _ c.in_ok-size.was _ c.write_registries.ensures

pub slice_bounds-write_rows-start : goal.slice_bounds-write_rows-start
slice_bounds-write_rows-start c = slice_bounds-write_rows-count c

pub returns : goal.returns
returns c =
    written-as _ _ _ _ _ _ _ _ c.sound-ok.ensures c.registries_size-first.ensures c.writing.ensures _ c.in_ok-size.was _ c.write_registries.ensures _ c.write_rows.ensures
