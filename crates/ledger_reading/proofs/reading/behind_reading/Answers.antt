use Rattle.ledger_reading.proofs.reading.behind_reading.Goals as goal

pub returns : goal.returns
returns c = rw (← c.decodes.ensures, c.if-decodes.false)
