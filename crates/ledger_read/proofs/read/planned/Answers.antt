use Rattle.ledger_row_image.specs.Images.{image_into}
use Rattle.ledger_image_check.specs.Checks.{checked_of}
use Rattle.ledger_read.specs.ImageReads.{plan_of}
use Rattle.ledger_read.proofs.read.planned.Goals as goal

pub returns-then-registry_slots-row_slots : goal.returns-then-registry_slots-row_slots
unfolding plan_of image_into checked_of
returns-then-registry_slots-row_slots c = rw (c.if-registry_slots-row_slots.true, c.check_image.ensures)

pub returns : goal.returns
unfolding plan_of image_into
returns c = rw c.if-registry_slots-row_slots.false
