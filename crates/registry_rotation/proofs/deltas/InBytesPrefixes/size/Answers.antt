use Rattle.registry_rotation.proofs.Listed.{listed-size}
use Rattle.registry_rotation.proofs.deltas.InBytesPrefixes.size.Goals as goal

pub returns : goal.returns
returns c = listed-size _ _ _ c.at_most_16.ensures
