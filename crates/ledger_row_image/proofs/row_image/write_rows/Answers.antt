use Rattle.std.proofs.Common.{◌≡◌, ◌+◌, ◌*◌, ◌≤◌, ◌∙◌, add-one, ap, arith, length, sym}
use Rattle.ledger_sections.proofs.RowTurns.{wrote, wrote_none, wrote-more, wrote-all, not_written, enough-rows, enough-room}
use Rattle.ledger_row_image.proofs.row_image.write_rows.Goals as goal

-- too few rows or too little room
pub returns-then-not-section_fits : goal.returns-then-not-section_fits
returns-then-not-section_fits c = not_written c.args.out.now c.args.rows.now c.args.count (sym c.if-not-section_fits.ensures)

-- behind the count none is written yet
pub loop-i-init : goal.loop-i-init
loop-i-init c =
    let bs = c.args.out.now in
    let xs = c.args.rows.now in
    let room : 2 + 115 * c.args.count ≤ length bs = enough-room bs xs c.args.count (sym c.if-not-section_fits.ensures) in
    c.write_count.ensures.1 ∙ wrote_none bs xs c.args.count (omega arith)

-- one row more is written behind the others
pub loop-i-preserved : goal.loop-i-preserved
loop-i-preserved c =
    let bs = c.args.out.now in
    let xs = c.args.rows.now in
    let n = c.args.count in
    let l = c.loop-i in
    let few : n ≤ length xs = enough-rows bs xs n (sym c.if-not-section_fits.ensures) in
    let room : 2 + 115 * n ≤ length bs = enough-room bs xs n (sym c.if-not-section_fits.ensures) in
    rw add-one (c.write.ensures.1 ∙ rw l.invariant (wrote-more bs xs n l.i (omega arith) (omega arith)))

-- the loop ends when the count of rows is written
pub returns : goal.returns
returns c =
    let bs = c.args.out.now in
    let xs = c.args.rows.now in
    let n = c.args.count in
    let end : c.loop-i.i ≡ n = omega arith in
    c.loop-i.invariant ∙ ap (wrote bs xs n) end ∙ wrote-all bs xs n (sym c.if-not-section_fits.ensures)
