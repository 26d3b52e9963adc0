use mathlib.Core.Path.{◌∙◌}
use Rattle.cesr.proofs.Matters.{eq-fields}
use Rattle.ledger_image_ids.specs.Pairs.{key_of}
use Rattle.ledger_image_rows_check.specs.RowTests.{key_at}
use Rattle.ledger_image_rows_check.proofs.RowChecks.{other_word}
use Rattle.ledger_image_rows_check.proofs.rows.same_key.Goals as goal

pub returns-then-read_u64-w : goal.returns-then-read_u64-w
returns-then-read_u64-w c =
    other_word _ _ (key_of c.args.w) _ c.requires c.read_u64.ensures c.if-read_u64-w.true

pub returns : goal.returns
unfolding key_at
returns c =
    let w = c.args.w in
    rw (c.eq-2.ensures ∙ eq-fields c.read-2.result w.credential.0, c.read-2.ensures, c.eq.ensures ∙ eq-fields c.read.result w.registry.0, c.read.ensures)
