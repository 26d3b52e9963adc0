use Rattle.registry_seals.specs.SealSections.{chosen_seals}
use Rattle.registry_seals.proofs.seals.chosen_seals.Goals as goal

pub returns : goal.returns
unfolding chosen_seals
returns c = rw (c.seal_section.ensures, c.chosen.ensures)
