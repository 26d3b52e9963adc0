use Rattle.ledger_standing.proofs.lookup.standing_of.Goals as goal

pub returns : goal.returns
returns c = rw (← c.is_issued.ensures, c.if-is_issued.false)
