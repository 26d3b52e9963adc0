use Rattle.registry_seals.specs.SealSections.{chosen}
use Rattle.registry_seals.proofs.seals.chosen.Goals as goal

pub returns-then-is_empty : goal.returns-then-is_empty
unfolding chosen
returns-then-is_empty c = rw (← c.if-is_empty.ensures)

pub returns : goal.returns
unfolding chosen
returns c = rw (← c.if-is_empty.ensures)
