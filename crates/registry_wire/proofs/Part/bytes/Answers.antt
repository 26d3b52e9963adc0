use Rattle.registry_wire.proofs.AnchorLaws.{part-within}
use Rattle.registry_wire.proofs.Part.bytes.Goals as goal

pub returns : goal.returns
returns c = part-within c.args.s.now c.args.self _ _ c.min-to.ensures c.min-from.ensures
