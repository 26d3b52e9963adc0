use Rattle.std.proofs.Common.{sym}
use Rattle.ledger_step.specs.Ledgers.{lent_ledger}
use Rattle.ledger_step.proofs.SoundParts.{sound-parts}
use Rattle.ledger_check.specs.RowsHeld.{rows_held}
use Rattle.ledger_check.proofs.check.sound.Goals as goal

-- the rules of registries alone, of rows alone, and of both
pub returns : goal.returns
unfolding lent_ledger rows_held
returns c =
    let a = c.args in
    rw (c.registries_sound.ensures, c.rows_sound.ensures, c.rows_held.ensures)
    (sym (sound-parts (lent_ledger a.registries.now a.registry_count a.rows.now a.row_count)))
