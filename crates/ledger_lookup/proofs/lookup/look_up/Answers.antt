use Rattle.ledger_lookup.proofs.Found.{looked-up}
use Rattle.ledger_lookup.proofs.lookup.look_up.Goals as goal

pub returns : goal.returns
returns c =
    let a = c.args in
    rw (← looked-up a.registries.now a.registry_count a.rows.now a.row_count a.registry a.credential, ← c.sound-sound.ensures, ← c.find_row-row.ensures) c.standing.ensures
