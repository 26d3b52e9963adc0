use mathlib.Core.Path.{sym}
use Rattle.laws.proofs.Room.{refused}
use Rattle.cesr_number.proofs.BeBytes.{store-part}
use Rattle.cesr_number.proofs.number.store.Goals as goal

pub returns-then-not-has_room : goal.returns-then-not-has_room
returns-then-not-has_room g c =
    let a = c.args in
    refused a.out.now a.at g.row.N a.bytes.now c.told-bytes (sym c.if-not-has_room.ensures)

pub returns : goal.returns
returns g c =
    let a = c.args in
    store-part a.out.now _ a.bytes.now a.at g.row.N c.told-bytes (sym c.if-not-has_room.ensures) c.copy_from_slice.ensures.after
