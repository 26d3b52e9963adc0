use Rattle.ledger_standing.proofs.lookup.has_standing.Goals as goal

pub returns : goal.returns
returns c = rw (c.is_said.ensures, c.is_said-2.ensures)
