use Rattle.ledger_apply.proofs.apply.apply.Goals as goal

pub returns-in-Ok-Registry : goal.returns-in-Ok-Registry
returns-in-Ok-Registry c =
    let e = c.in-Ok-Registry.ensures in
    let is = c.in-Ok-Registry.field-0-is in
    let ledger = rw is at e.ledger in
    let stored = rw is at e.stored in
    rw c.store_registry.ensures (record { answer = e.answer; ledger = ledger; stored = stored })

pub returns-in-Ok-Row : goal.returns-in-Ok-Row
returns-in-Ok-Row c =
    let e = c.in-Ok-Row.ensures in
    let is = c.in-Ok-Row.field-0-is in
    let ledger = rw is at e.ledger in
    let stored = rw is at e.stored in
    rw c.store_row.ensures (record { answer = e.answer; ledger = ledger; stored = stored })
