use Rattle.cesr.proofs.Said.read.Goals as goal

pub returns : goal.returns
returns c = rw c.read.ensures
