use Rattle.std.proofs.Common.{◌∙◌}
use Rattle.cesr.specs.Primitives.{eq_said, eq_matter}
use Rattle.ledger_step.proofs.OneMore.{has-any}
use Rattle.ledger_image_ids.proofs.Ids.contains.Goals as goal

pub returns : goal.returns
unfolding eq_matter
returns c = c.contains.ensures.value ∙ rw c.as_slice.ensures (has-any eq_said _ _)
