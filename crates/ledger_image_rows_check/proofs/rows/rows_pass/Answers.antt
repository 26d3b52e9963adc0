use mathlib.Core.Path.{refl}
use native.Mathlib.Numerals.{add-one}
use borrow.Author.Rules.{rules}
use Rattle.ledger_image_rows_check.specs.RowTests.{rows_pass}
use Rattle.ledger_image_rows_check.specs.Marks.{word_of}
use Rattle.ledger_image_rows_check.proofs.MarkLaws.{told_none, told-next, told-others}
use Rattle.ledger_image_rows_check.proofs.rows.rows_pass.Goals as goal

pub loop-i-init : goal.loop-i-init
unfolding rows_pass
loop-i-init c = record { told = told_none _ _; ok = refl }

pub row_passes-ok-requires : goal.row_passes-ok-requires
unfolding word_of
row_passes-ok-requires c =
    (search rules, rw c.read_u64.ensures (told-others _ _ _ _ c.loop-i.invariant.told))

pub loop-i-preserved : goal.loop-i-preserved
unfolding rows_pass word_of
loop-i-preserved c =
    let known = c.loop-i.invariant in
    record { told = rw c.read_u64.ensures (told-next _ _ _ _ known.told); ok = rw (add-one, c.row_passes-ok.ensures, known.ok) }
