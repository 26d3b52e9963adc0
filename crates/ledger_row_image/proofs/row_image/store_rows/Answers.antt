use Rattle.std.proofs.Common.{◌∙◌, add-one}
use Rattle.ledger_sections.proofs.RowTurns.{cursor-none, cursor-more, read_none, read_more}
use Rattle.ledger_row_image.proofs.row_image.store_rows.Goals as goal

pub loop-i-init : goal.loop-i-init
loop-i-init c =
    record {
      behind = cursor-none c.args.image.now c.args.at c.args.rows.now;
      stored = read_none c.args.image.now c.args.at c.args.rows.now;
    }

-- one row more is read at the cursor and stored
pub loop-i-preserved : goal.loop-i-preserved
loop-i-preserved c =
    let bs = c.args.image.now in
    let ys = c.args.rows.now in
    let l = c.loop-i in
    let r = c.read-read.result in
    let e = rw l.invariant.behind at c.read-read.ensures in
    record {
      behind = rw add-one (cursor-more bs c.args.at ys l.i r e);
      stored = rw add-one (c.store_row.ensures ∙ rw l.invariant.stored (read_more bs c.args.at ys l.i r e));
    }
