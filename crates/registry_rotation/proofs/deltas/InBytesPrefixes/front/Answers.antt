use Rattle.registry_rotation.proofs.Listed.{listed-front}
use Rattle.registry_rotation.proofs.deltas.InBytesPrefixes.front.Goals as goal

pub returns : goal.returns
returns c = listed-front _ c.args.self.list c.args.n _ c.min-count.ensures
