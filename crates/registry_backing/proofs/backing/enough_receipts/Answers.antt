use Rattle.registry_backing.specs.Backings.{enough_receipts}
use Rattle.registry_backing.proofs.backing.enough_receipts.Goals as goal

pub returns : goal.returns
unfolding enough_receipts
returns c = rw (c.accept_if.ensures, c.value-required.ensures, c.valid_receipts-valid.ensures)
