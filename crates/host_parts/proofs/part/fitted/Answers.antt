use Rattle.host_parts.proofs.part.fitted.Goals as goal

pub returns : goal.returns
returns c = rw c.accept_if-fits.ensures at c.or_else.ensures
