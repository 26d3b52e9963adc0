use Rattle.host_ledger.proofs.key.key_in.Goals as goal

pub returns : goal.returns
returns c = rw (c.said_in-2.ensures, c.said_in.ensures)
