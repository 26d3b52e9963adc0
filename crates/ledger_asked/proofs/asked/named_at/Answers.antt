use Rattle.ledger_asked.proofs.asked.named_at.Goals as goal

pub returns : goal.returns
returns c = rw (c.about.ensures, c.read-registry.ensures, c.read-credential.ensures)
